-- The negotiators' numbers and names, which stand beside the enum of the negotiators.
pub use Rattle.model.specs.Numbers.{number_of, Named}
