-- Laws of the definitions, each file above what it cites.
pub mod ByteLaws
pub mod FieldLaws
pub mod PlacedLaws
pub mod DecimalLaws
pub mod ElementLaws
pub mod EncodeLaws
pub mod ProgramLaws
pub mod TextLaws
pub mod PrintedLaws
pub mod CasesHold
