-- Lists without repeats.
pub use Rattle.class_lookup.specs.Lists.{distinct, with_item, with_items}
