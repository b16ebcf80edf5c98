use Rattle.std.proofs.Common.{◌≡◌, ◌++◌, drop}
use Rattle.std.specs.Prelude.{map}
use Rattle.ss_words.specs.Lists.{all_of, several_view}
use Rattle.ss_preamble.specs.View.{key_view}
use Rattle.ss_check.specs.Resolved.{resolved_key}
use Rattle.ss_check.specs.ResolvedNames.{attribute_names}
use Rattle.ss_check.proofs.resolved.class_tables.resolve_keys.Given as goal

-- the keys that are left bring the list to all
abbrev pub invariant-loop-key : goal.invariant-loop-key
invariant-loop-key l =
    l.list.items ++ map (resolved_key (attribute_names l.names l.class)) (map key_view (drop l.key-index l.key-items))
    ≡ map (resolved_key (attribute_names l.names l.class)) (all_of (several_view key_view l.fn.keys))
