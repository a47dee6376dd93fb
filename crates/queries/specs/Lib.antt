-- What the queries promise, what the one for a day needs, and what the search for the periods of a point and an element finds.
pub mod PairSearch
pub mod Promises
pub mod Days
pub mod Owned
