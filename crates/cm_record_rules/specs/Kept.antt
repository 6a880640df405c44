-- What `cm_rules` requires of an interface and of an attribute of the class, made available for
-- unfolding.
unfoldable pub use Rattle.cm_rules.specs.Kept.{interface_keeps, attribute_keeps}
unfoldable pub use Rattle.cm_rules.specs.Fault.{interface_rule, attribute_rule}
