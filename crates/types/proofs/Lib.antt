-- LawsTypes: what proofs here and above may know of the known types. LawsColumns: of the code's columns. LawsPlaces: of the look-up, place by place.
-- Columns: the words of the table tell the answers of the look-up apart.
pub mod LawsTypes
pub mod LawsColumns
pub mod LawsPlaces
pub mod Columns
