-- Laws of bytes that come to the front of a buffer, and of a turn.
pub mod Pieces
pub mod Turning
