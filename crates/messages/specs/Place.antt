-- Place: the place of a message as the code has it, in the words of specs/Answers.antt of collector, and the parts that are lent by it.
--
--   source_of s   the number of one of the two
--   placed p      which of the two it stands in, or neither, from which byte, and how many bytes
--   front_of n x, behind_of n x     of a part, the first n bytes, or all; the others, at its end where there are fewer
--   own_part a number x            the part of a body, or nothing at its start: its bytes are `own_of`
--   joined_part a number x         the part of a join buffer, or nothing at its start: its bytes are `joined_of`
--
-- Trusts: nothing.
use Rattle.std.specs.Prelude.{ℕ, ◌+◌, min, cond, [], length, take, drop, eqb, Option, None, Some}
use Rattle.wire.specs.Parts.{Part, part}
use Rattle.collector.specs.Answers as answers
use Rattle.collector.specs.Answers.{Said, in_body, in_join, place_of}
use Rattle.messages.specs.declared.Place.{Place}
use Rattle.messages.specs.declared.Source.{Source}
use Rattle.messages.specs.declared.Source.TheVariants.{Body, Join}

abbrev pub source_of : Source → ℕ
source_of Body = in_body
source_of Join = in_join

abbrev pub placed : Option Place → answers.Place
placed None = answers.place answers.in_neither 0 0
placed (Some p) = answers.place (source_of p.source) p.start p.length

abbrev pub front_of : ℕ → Part → Part
front_of n x = part x.at (take n x.bytes)

abbrev pub behind_of : ℕ → Part → Part
behind_of n x = part (x.at.0, min n (length x.bytes) + x.at.1) (drop n x.bytes)

unfoldable pub own_part : Said → ℕ → Part → Part
own_part a number x =
    let p = place_of a number in
    cond (eqb p.source in_body) (behind_of p.start x) (part x.at [])

unfoldable pub joined_part : Said → ℕ → Part → Part
joined_part a number x =
    let p = place_of a number in
    cond (eqb p.source in_join) (front_of p.length (behind_of p.start x)) (part x.at [])
