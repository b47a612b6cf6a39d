-- `writing_bodies::lay_all` lays every body (`Laying`): a piece ends in the message.
-- Trusts: nothing.
use Rattle.std.proofs.Common.{◌≡◌, ℕ, ◌-◌, ap, ◌∙◌, List, [], ◌∷◌, length, get_or, take, arith}
use Rattle.table.specs.Table.{limited_to}
use Rattle.wire.proofs.Laws.{part-all}
use Rattle.writing_bodies.specs.Bodies.{laid}
use Rattle.writing_bodies.proofs.Turn.{laying_more, laying_all}
use Rattle.writing_bodies.proofs.lay_all.Goals as goal

pub loop-k-preserved : goal.loop-k-preserved
loop-k-preserved c =
    let a = c.args in
    let k = c.loop-k.k in
    let same : take c.limited-bodies.result a.lengths ≡ take (limited_to 16 a.number) a.lengths = ap (λ (n : ℕ). take n a.lengths) c.limited-bodies.ensures in
    laying_more _ _ _ _ _ c.loop-k.invariant (omega (arith, ap length same)) (c.shorter.ensures ∙ ap (λ (l : List ℕ). limited_to (length a.message.now - c.loop-k.from) (get_or l k 0)) same)
    (c.lay_one.ensures ∙ ap (λ (p : List ℕ). laid a.count a.number k (p ∷ []) c.loop-k.out) (part-all a.message.now c.loop-k.from c.shorter.result))

pub returns : goal.returns
returns c =
    let same : take c.limited-bodies.result c.args.lengths ≡ take (limited_to 16 c.args.number) c.args.lengths = ap (λ (n : ℕ). take n c.args.lengths) c.limited-bodies.ensures in
    laying_all _ _ _ _ _ c.loop-k.invariant (omega (arith, ap length same))
