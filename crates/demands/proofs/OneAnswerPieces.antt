-- OneAnswerPieces: the contract of every public function of the other lower crates (those of PartsPieces) admits one answer only, as
-- OneAnswerParts says it of those that reading stands on.
-- Trusts: nothing.
use mathlib.Core.Path.{sym, ◌∙◌}
use contract.Lifetimes.{Lfts}
use Rattle.demands.proofs.Contract.{One, only, answer}
use Rattle.demands.proofs.PartsPieces as pieces
use Rattle.joining.specs.Pieces.{JoinAfter}
use Rattle.texts.specs.Put.{Put}
use Rattle.notices.specs.Listing.{Listing, written}
use Rattle.wire.specs.Parts.{Part, part}
use Rattle.cuts.proofs.Ruling.{ruling_only}
use Rattle.relation.proofs.Laws.{related_only}
use Rattle.body_tests.proofs.Laws.{refused_by_only}
use Rattle.cuts.proofs.judge_cuts.Reads as judge_cuts_contract
use Rattle.collection.proofs.begin.Reads as begin_contract
use Rattle.held.proofs.is_of.Reads as is-of
use Rattle.joining.proofs.piece_in.Reads as piece_in_contract
use Rattle.joining.proofs.join_pieces.Reads as join_pieces_contract
use Rattle.relation.proofs.relate.Reads as relate_contract
use Rattle.body_tests.proofs.refuse.Reads as refuse_contract
use Rattle.packets.proofs.wrong_length.Reads as wrong_length_contract
use Rattle.packets.proofs.Laws.{as_packet_only}
use Rattle.packets.proofs.read_packet.Reads as read_packet_contract
use Rattle.packets.proofs.read_port.Reads as read_port_contract
use Rattle.matching.proofs.entry_of.Reads as entry_of_contract
use Rattle.matching.proofs.fits_packet.Reads as fits_packet_contract
use Rattle.bodies.proofs.list_body.Reads as list_body_contract
use Rattle.texts.proofs.Writer.put_byte.Reads as put_byte_contract
use Rattle.texts.proofs.Writer.put_field.Reads as put_field_contract
use Rattle.texts.proofs.Writer.put_address.Reads as put_address_contract
use Rattle.notices.proofs.list_refusal.Reads as list_refusal_contract
use Rattle.notices.proofs.list_waiting.Reads as list_waiting_contract
use Rattle.listing.proofs.list_table.Reads as list_table_contract

-- ---- cuts, collection, held, joining, relation, body_tests

pub judge_cuts_one : (κs : Lfts 1) → One answer (judge_cuts_contract.Post κs)
judge_cuts_one κs a x y s t h g = ruling_only x y (h ∙ sym g)

pub begin_one : (κs : Lfts 0) → One answer (begin_contract.Post κs)
begin_one κs = only (pieces.begin_gives κs)

pub is_of_one : (κs : Lfts 0) → One answer (is-of.Post κs)
is_of_one κs = only (pieces.is_of_gives κs)

pub piece_in_one : (κs : Lfts 1) → One {L = Part} (λ x s. part x.ref_ptr x.now) (piece_in_contract.Post κs)
piece_in_one κs = only (pieces.piece_in_gives κs)

pub join_pieces_one : (κs : Lfts 2) → One {L = JoinAfter} (λ x s. record { size = x; join = s.1.0.now }) (join_pieces_contract.Post κs)
join_pieces_one κs = only (pieces.join_pieces_gives κs)

pub relate_one : (κs : Lfts 2) → One answer (relate_contract.Post κs)
relate_one κs a x y s t h g = related_only x y (h ∙ sym g)

pub refuse_one : (κs : Lfts 1) → One answer (refuse_contract.Post κs)
refuse_one κs a x y s t h g = refused_by_only x y (h ∙ sym g)

-- ---- packets

pub wrong_length_one : (κs : Lfts 1) → One answer (wrong_length_contract.Post κs)
wrong_length_one κs = only (pieces.wrong_length_gives κs)

pub read_packet_one : (κs : Lfts 1) → One answer (read_packet_contract.Post κs)
read_packet_one κs a x y s t h g = as_packet_only x y (only (pieces.read_packet_gives κs) a x y s t h g)

pub read_port_one : (κs : Lfts 1) → One answer (read_port_contract.Post κs)
read_port_one κs = only (pieces.read_port_gives κs)

-- ---- matching

pub entry_of_one : (κs : Lfts 0) → One answer (entry_of_contract.Post κs)
entry_of_one κs = only (pieces.entry_of_gives κs)

pub fits_packet_one : (κs : Lfts 0) → One answer (fits_packet_contract.Post κs)
fits_packet_one κs = only (pieces.fits_packet_gives κs)

-- ---- texts

pub put_byte_one : (κs : Lfts 2) → One {L = Put} (λ x s. record { next = s.0.now.at; out = s.0.now.out.now }) (put_byte_contract.Post κs)
put_byte_one κs = only (pieces.put_byte_gives κs)

pub put_field_one : (κs : Lfts 3) → One {L = Put} (λ x s. record { next = s.0.now.at; out = s.0.now.out.now }) (put_field_contract.Post κs)
put_field_one κs = only (pieces.put_field_gives κs)

pub put_address_one : (κs : Lfts 3) → One {L = Put} (λ x s. record { next = s.0.now.at; out = s.0.now.out.now }) (put_address_contract.Post κs)
put_address_one κs = only (pieces.put_address_gives κs)

-- ---- notices

pub list_refusal_one : (κs : Lfts 1) → One {L = Listing} (λ x s. record { answer = written x; out = s.1.1.0.now }) (list_refusal_contract.Post κs)
list_refusal_one κs = only (pieces.list_refusal_gives κs)

pub list_waiting_one : (κs : Lfts 1) → One {L = Listing} (λ x s. record { answer = written x; out = s.1.0.now }) (list_waiting_contract.Post κs)
list_waiting_one κs = only (pieces.list_waiting_gives κs)

-- ---- listing

pub list_table_one : (κs : Lfts 1) → One {L = Listing} (λ x s. record { answer = written x; out = s.1.1.0.now }) (list_table_contract.Post κs)
list_table_one κs = only (pieces.list_table_gives κs)

-- ---- bodies

pub list_body_one : (κs : Lfts 2) → One {L = Listing} (λ x s. record { answer = written x; out = s.1.0.now }) (list_body_contract.Post κs)
list_body_one κs = only (pieces.list_body_gives κs)
