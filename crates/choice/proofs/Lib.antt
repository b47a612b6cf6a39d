-- Laws: of the choice. Fits: the choice said without a computation. Orderless: the order of the rules does
-- not matter. Chose: the paper's words tell choices apart. Bench: message M. Controls: wrong programs.
pub mod Laws
pub mod Fits
pub mod Orderless
pub mod Chose
pub mod Bench
pub mod Controls
