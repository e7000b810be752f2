pub mod Laws
pub use Rattle.qsr_inputs.specs.Told
pub use Rattle.qsr_answers.specs.Texts
pub use Rattle.qsr_answers.specs.Commands
