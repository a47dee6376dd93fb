-- Laws of a list of records and of the room that it has.
pub mod Rooms
