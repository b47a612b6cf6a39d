-- Search: a loop that looks for an element that passes. Order: the order of priorities and numbers.
-- Places, Chosen: the place of the first and of the best, by what is known of the members, and place by place. Scan: one walk from the front finds
-- the best place.
pub mod Search
pub mod Order
pub mod Places
pub mod Scan
pub mod Chosen
