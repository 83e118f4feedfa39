-- What is reached upwards.
pub use Rattle.lists.proofs.Reached.{Falls, here, beyond, way_of, in_append, in_flat, reached_self, reached_by, reached_through, reached_rank, reached_kept, reached_step}
