-- Laws of the definitions, each file above what it cites.
pub mod StageLaws
pub mod PartLaws
pub mod OpenLaws
pub mod TextLaws
pub mod FoundLaws
pub mod TellLaws
pub mod ArmLaws
pub mod ValueLaws
pub mod RunLaws
