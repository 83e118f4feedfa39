-- How what is told goes on over several calls.
pub use Rattle.base.specs.Growing.{NothingIsAdded, AdditionsJoin, Grew-refl, Grew-trans}
