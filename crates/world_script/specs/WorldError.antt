-- The refusal of a script's world, which is that of the world: passed on to those who run scripts.
pub use Rattle.world.specs.declared.event.WorldError.{WorldError}
pub use Rattle.world.specs.declared.event.WorldError.TheVariants.{OutOfMemory, BadEvent, Stopped}
