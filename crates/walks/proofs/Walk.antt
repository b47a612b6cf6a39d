-- Walk: the names of the program logic that a walk of a thin function needs (logic/PROOFS.md of the kit), passed on in one place.
--
-- A walk goes through the code of a function that takes a record behind a reference: the record is copied whole out of the borrow, one
-- function is called, and, behind a `&mut`, a record of its result is stored whole. The walks of crate dsg have that shape; they
-- differ in the records, slices and numbers of their signatures. Each file names, in this order:
--   stayed, Callee     what becomes of each parameter; the callee's contract
--   left, exits        what is had at the return, and that it gives the contract
--   to, goes-in        what the callee binds and asks, and that the walk has it
--   walk               the code, statement by statement
--   walks, goes, meets how the walk becomes the contract
-- Trusts: nothing.
pub use mathlib.Core.Path.{◌≡◌, refl, ap}
pub use mathlib.Core.Bool.{Bool}
pub use Prim.Native.Nat.{ℕ}
pub use mathlib.Core.List.{[], ◌∷◌, List}
pub use seplogic.Ra.Ura.{Ura}
pub use base.Fraction.{full_share}
pub use mir.Syntax.{named, w8, w16, w32, w64}
pub use mir.Val.{Val, vint, vptr}
pub use base.Logic.{SProp, ent, emp, via, fst∗, id⊢}
pub use base.Fml.{GName, Lft, Share, ftrue, flft, fobs, fbor, fat, fres, fshr_bor}
pub use prog.Memory.{Memory}
pub use prog.Routine.{Routine}
pub use prog.Wp.{Heap, Calls, Loops, WpFn, Tables}
pub use ghost.Atoms.{Atoms}
pub use contract.Monad.{Fun, fact}
pub use contract.Running.{tables}
unfoldable pub use contract.Running.{tables_of}
pub use types.Kit.{Item, ‵, raw, ◌⊛◌, ⋆, some, later, ◌$◌, ◌∵◌, !, qed, by, move, keep, drop, use0, use1, split, join, pick, rewrite, fsplit, fsplit3, fjoin, fjoin3, feq_i, feq_l, suffices, frame, await, done}
pub use types.Run.{look, store_raw, init, stop, hop, fld, from, load, addr, of_opd, and_then, no_more, assigns, land, returns}
pub use types.Part.{agg, whole, sub, look_in}
pub use types.SemTy.{Body}
pub use sound.WpLaws.{FmC, fm_of, WpFn-mono}
pub use denote.RattleType.{owns}
pub use denote.Laws.{Is, shows}
pub use denote.Memory.{mem, part_at}
pub use denote.Plain.{Boolean, bool_Lawful, uint_vals, uint_Tells, uint_Makes, uint_Lawful}
pub use denote.Builtin.{u8, u16, u32, u64}
pub use denote.Slice.{ShrSlice, MutSlice, finally, mut_slice_Tells, mut_slice_Lawful, slice_val, shr_slice_vals, mut_slice_vals, shr_slice_Tells, shr_slice_Lawful, shr_slice_copy}
pub use lib.ListN.{length}
pub use denote.Ref.{Bor, MutBor, MutRef, ShrRef, shr_vals, mut_vals, mut_Tells, shr_Tells}
pub use denote.Signature.{plain}
pub use denote.Steps.{only, opens, closes, looks, shuts, owned, peeks, heard, nothing}
pub use denote.Struct.Steps.{spelt}
pub use denote.Triple.Entry.{on_entry}
pub use denote.Triple.Spec.{Meets, triple_of}
pub use denote.Triple.Statement.{Contract, Triple}
pub use denote.Triple.Call.{calls_at}
pub use denote.Triple.Clauses.{ensured, lasts}
pub use denote.Triple.Table.{entered, cited}
pub use denote.Triple.Walked.{says, Stays, stay_ref, stay_none, stay_none_ref, stay_none_slice, gave_slice, walk_of, AllGo, Goes-none, Goes-none_ref, Goes-none_slice, Goes-gave_slice, Goes-ref, Walks, ends_at, walked, walk_Meets}
pub use denote.Exit.{yes}
