-- Wholes: the pieces of a table's elements are whole elements.
-- Buffer: what the answer and the output buffer say.      Controls: wrong writers refuted.
-- Received: they are a cutting of the message, and the receiver ends with the table that was written.
pub mod Wholes
pub mod Received
pub mod Buffer
pub mod Controls
