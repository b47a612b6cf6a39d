-- Numbers: laws of decimal and hexadecimal.
-- Written: laws of the relations between two buffers, by which texts are written one behind the other.
-- Lengths: how long a field can be; short texts written one behind the other.
-- Puts: laws of the public contracts.
-- Turns: a loop that writes a text for each entry of a list.
-- Bench: numbers as text, computed.
pub mod Numbers
pub mod Written
pub mod Lengths
pub mod Puts
pub mod Turns
pub mod Bench
