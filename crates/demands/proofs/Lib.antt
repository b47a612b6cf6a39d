-- Contract: what it means that a contract gives a definition, and that it admits one answer.
-- Parts, PartsPieces: the contracts of the lower crates.      Demand2, Demand2Frames: those of the entries that demand 2 names.
-- Exported: those of the C interface.
-- Demand1: what a refusal leaves, and its numbers; with Demand1Dropped (21, which empties the record), Demand1Receive, Demand1Frames and, as a C host sees it, Demand1C.
-- Demand3: a cut message completes once, at its last missing piece; what is lent, named to a C host and read there is the uncut one.
-- OneAnswer, OneAnswerParts, OneAnswerPieces, OneAnswerC: every contract admits one answer.      Values: both, of the functions under the C interface.
-- Writers: the same of the public functions of writing.
-- Lendable: demand 2 for every record that a call can be lent.
-- Starred: the starred examples, one list under one theorem.      Listed: the example of dcdlist.
-- Sentences: sentences of document 01 that follow from the definitions.
-- LawsFill, LawsOrder, LawsNumbers: rules, classifiers and numbers stand in the table in byte order.      LawsAscend: places ascend.
-- LawsCount, LawsRoom: what passed its tests keeps to the room of the lists.
-- LawsSearch: what the search for a lone number finds.
-- LawsStand: where its number stands.      LawsReached: where reading comes to 15.
-- Lone: refusal 15 stands at the first 50.6 that no classifier answers.
-- Silence: after Disable the transmitter stays off.      Controls: wrong programs refuted.
pub mod Contract
pub mod Parts
pub mod PartsPieces
pub mod Demand1
pub mod Demand1Dropped
pub mod Demand1Receive
pub mod Demand1Frames
pub mod Demand1C
pub mod Demand2
pub mod Demand2Frames
pub mod Demand3
pub mod Values
pub mod Exported
pub mod OneAnswer
pub mod OneAnswerParts
pub mod OneAnswerPieces
pub mod OneAnswerC
pub mod Writers
pub mod Lendable
pub mod Starred
pub mod Listed
pub mod Sentences
pub mod LawsFill
pub mod LawsOrder
pub mod LawsNumbers
pub mod LawsAscend
pub mod LawsCount
pub mod LawsRoom
pub mod LawsSearch
pub mod LawsStand
pub mod LawsReached
pub mod Lone
pub mod Silence
pub mod Controls
