-- Text: words and numbers as a list of bytes (document 01, "Listing").
--
--   ascii s            the bytes of a quoted text
--   digit d            a digit below 16
--   decimal n          a number in decimal, without zeros in front
--   hexadecimal w n    the last `w` hexadecimal digits of a number, in lower case
--   field word n       a fixed word with a number behind it         address word n    the same with twelve hexadecimal digits
--   each f l           the bytes of every entry of a list, in list order
--
-- A number of 2^48 or more, which no message gives as a tunnel's, shows its low 48 bits as an address.
-- Tested by: proofs/Bench.antt; document 01's example in proofs/Bench.antt of listing; random bodies against the other program.
-- Trusts: nothing.
use Rattle.std.specs.Prelude.{ℕ, zero, suc, ◌+◌, ◌/◌, ◌%◌, Bool, true, false, cond, List, [], ◌∷◌, ◌++◌, ltb}
use Prim.Native.Char.{code}
use Prim.Native.String.{String, [] as ε, ◌∷◌ as ◌▹◌}

-- the bytes of a quoted text
abbrev pub ascii : String → List ℕ
ascii ε = []
ascii (c ▹ s) = code c ∷ ascii s

-- a digit below 16: `0` to `9`, then `a` to `f`
unfoldable pub digit : ℕ → ℕ
digit d = cond (ltb d 10) (48 + d) (87 + d)

-- what `decimal` gives; `small` says whether n is below 10, and `turns` bounds the digits: n turns are enough for n
unfoldable pub decimal_in : ℕ → Bool → ℕ → List ℕ
decimal_in zero small n = digit (n % 10) ∷ []
decimal_in (suc turns) true n = digit n ∷ []
decimal_in (suc turns) false n = decimal_in turns (ltb (n / 10) 10) (n / 10) ++ (digit (n % 10) ∷ [])

-- its rule is in proofs/Numbers.antt: below 10 its digit, else what stands ahead of its last digit and that digit
unfoldable pub decimal : ℕ → List ℕ
decimal n = decimal_in n (ltb n 10) n

unfoldable pub hexadecimal : ℕ → ℕ → List ℕ
hexadecimal zero n = []
hexadecimal (suc w) n = hexadecimal w (n / 16) ++ (digit (n % 16) ∷ [])

unfoldable pub field : List ℕ → ℕ → List ℕ
field word n = word ++ decimal n

unfoldable pub address : List ℕ → ℕ → List ℕ
address word n = word ++ hexadecimal 12 n

unfoldable pub each : {A : Type 0} → (A → List ℕ) → List A → List ℕ
each f [] = []
each f (x ∷ xs) = f x ++ each f xs
