-- PartsPieces: what the public functions of the other lower crates give (cuts, collection, held, joining, relation, body_tests, packets, matching,
-- texts, notices, listing, bodies): each its definition, for every input, as Parts says it of those that reading stands on.
-- Trusts: nothing.
use mathlib.Core.List.{[], ◌∷◌}
use contract.Lifetimes.{Lfts}
use Rattle.demands.proofs.Contract.{Gives, answer}
use Rattle.wire.specs.Parts.{Part, part}
use Rattle.cuts.specs.Cuts.{Ruling, ruling, cuts_in}
use Rattle.cuts.proofs.judge_cuts.Reads as judge_cuts_contract
use Rattle.collection.specs.Record.{empty_collection}
use Rattle.held.specs.Held.{is_of}
use Rattle.joining.specs.Pieces.{part_in, JoinAfter, join_step}
use Rattle.relation.specs.Relation.{relation_to, related}
use Rattle.body_tests.specs.Refusals.{refusal_of, refused_by}
use Rattle.collection.proofs.begin.Reads as begin_contract
use Rattle.held.proofs.is_of.Reads as is-of
use Rattle.joining.proofs.piece_in.Reads as piece_in_contract
use Rattle.joining.proofs.join_pieces.Reads as join_pieces_contract
use Rattle.relation.proofs.relate.Reads as relate_contract
use Rattle.body_tests.proofs.refuse.Reads as refuse_contract
use Rattle.std.specs.Prelude.{Some}
use Rattle.packets.specs.Packets.{Packet, wrong_length, packet_of, as_packet, port_of}
use Rattle.packets.proofs.wrong_length.Reads as wrong_length_contract
use Rattle.packets.proofs.read_packet.Reads as read_packet_contract
use Rattle.packets.proofs.read_port.Reads as read_port_contract
use Rattle.matching.specs.Entry.{entry_of, fits_packet}
use Rattle.matching.proofs.entry_of.Reads as entry_of_contract
use Rattle.matching.proofs.fits_packet.Reads as fits_packet_contract
use Rattle.texts.specs.Text.{field, address}
use Rattle.texts.specs.Put.{Put, put}
use Rattle.texts.proofs.Writer.put_byte.Reads as put_byte_contract
use Rattle.texts.proofs.Writer.put_field.Reads as put_field_contract
use Rattle.texts.proofs.Writer.put_address.Reads as put_address_contract
use Rattle.notices.specs.Text.{refusal_text, waiting_text}
use Rattle.listing.specs.Text.{table_text}
use Rattle.notices.specs.Listing.{Listing, written, listing}
use Rattle.bodies.specs.Body.{body_text}
use Rattle.bodies.proofs.list_body.Reads as list_body_contract
use Rattle.listing.proofs.list_table.Reads as list_table_contract
use Rattle.notices.proofs.list_refusal.Reads as list_refusal_contract
use Rattle.notices.proofs.list_waiting.Reads as list_waiting_contract

-- ---- cuts, collection, held, joining, relation, body_tests

pub judge_cuts_gives : (κs : Lfts 1) → Gives {L = Ruling} (λ x s. ruling x) (judge_cuts_contract.Post κs) (λ a. cuts_in a.0.now a.1.0 a.1.1.0)
judge_cuts_gives κs a x s h = h

pub begin_gives : (κs : Lfts 0) → Gives answer (begin_contract.Post κs) (λ a. empty_collection a.0.strict a.1.0 a.1.1.0)
begin_gives κs a x s h = h

pub is_of_gives : (κs : Lfts 0) → Gives answer (is-of.Post κs) (λ a. is_of a.0 a.1.0 a.1.1.0)
is_of_gives κs a x s h = h

pub piece_in_gives : (κs : Lfts 1) → Gives {L = Part} (λ x s. part x.ref_ptr x.now) (piece_in_contract.Post κs) (λ a. part_in (part a.0.ref_ptr a.0.now) a.1.0 a.1.1.0)
piece_in_gives κs a x s h = h

pub join_pieces_gives : (κs : Lfts 2) → Gives {L = JoinAfter} (λ x s. record { size = x; join = s.1.0.now }) (join_pieces_contract.Post κs)
    (λ a. join_step a.0.now a.1.0.now a.1.1.0 a.1.1.1.0)
join_pieces_gives κs a x s h = h

pub relate_gives : (κs : Lfts 2) → Gives (λ x s. related x) (relate_contract.Post κs) (λ a. relation_to a.0 a.1.0.now a.1.1.0 a.1.1.1.0 a.1.1.1.1.0 a.1.1.1.1.1.0.now)
relate_gives κs a x s h = h

pub refuse_gives : (κs : Lfts 1) → Gives (λ x s. refused_by x) (refuse_contract.Post κs) (λ a. refusal_of a.0 a.1.0 a.1.1.0.now)
refuse_gives κs a x s h = h

-- ---- packets

pub wrong_length_gives : (κs : Lfts 1) → Gives answer (wrong_length_contract.Post κs) (λ a. wrong_length a.0.now)
wrong_length_gives κs a x s h = h

pub read_packet_gives : (κs : Lfts 1) → Gives {L = Packet} (λ x s. as_packet x) (read_packet_contract.Post κs) (λ a. packet_of a.0.now)
read_packet_gives κs a x s h = h

pub read_port_gives : (κs : Lfts 1) → Gives answer (read_port_contract.Post κs) (λ a. port_of a.0.now)
read_port_gives κs a x s h = h

-- ---- matching

pub entry_of_gives : (κs : Lfts 0) → Gives answer (entry_of_contract.Post κs) (λ a. entry_of a.0)
entry_of_gives κs a x s h = h

pub fits_packet_gives : (κs : Lfts 0) → Gives answer (fits_packet_contract.Post κs) (λ a. fits_packet (as_packet (Some a.1.0)) a.1.1.0 a.0)
fits_packet_gives κs a x s h = h

-- ---- texts: the place behind the text and the lent buffer

pub put_byte_gives : (κs : Lfts 2) → Gives {L = Put} (λ x s. record { next = s.0.now.at; out = s.0.now.out.now }) (put_byte_contract.Post κs)
    (λ a. (put) (a.1.0 ∷ []) a.0.now.out.now a.0.now.at)
put_byte_gives κs a x s h = h.1

pub put_field_gives : (κs : Lfts 3) → Gives {L = Put} (λ x s. record { next = s.0.now.at; out = s.0.now.out.now }) (put_field_contract.Post κs)
    (λ a. (put) (field a.1.0.now a.1.1.0) a.0.now.out.now a.0.now.at)
put_field_gives κs a x s h = h.1

pub put_address_gives : (κs : Lfts 3) → Gives {L = Put} (λ x s. record { next = s.0.now.at; out = s.0.now.out.now }) (put_address_contract.Post κs)
    (λ a. (put) (address a.1.0.now a.1.1.0) a.0.now.out.now a.0.now.at)
put_address_gives κs a x s h = h.1

-- ---- notices, listing and bodies: the answer and the lent buffer

pub list_refusal_gives : (κs : Lfts 1) → Gives {L = Listing} (λ x s. record { answer = written x; out = s.1.1.0.now }) (list_refusal_contract.Post κs)
    (λ a. listing (refusal_text a.0 a.1.0) a.1.1.0.now)
list_refusal_gives κs a x s h = h

pub list_waiting_gives : (κs : Lfts 1) → Gives {L = Listing} (λ x s. record { answer = written x; out = s.1.0.now }) (list_waiting_contract.Post κs) (λ a. listing (waiting_text a.0) a.1.0.now)
list_waiting_gives κs a x s h = h

pub list_table_gives : (κs : Lfts 1) → Gives {L = Listing} (λ x s. record { answer = written x; out = s.1.1.0.now }) (list_table_contract.Post κs)
    (λ a. listing (table_text a.0 a.1.0) a.1.1.0.now)
list_table_gives κs a x s h = h

pub list_body_gives : (κs : Lfts 2) → Gives {L = Listing} (λ x s. record { answer = written x; out = s.1.0.now }) (list_body_contract.Post κs) (λ a. listing (body_text a.0.now) a.1.0.now)
list_body_gives κs a x s h = h
