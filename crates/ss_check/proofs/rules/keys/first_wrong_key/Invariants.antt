use Rattle.std.proofs.Common.{◌≡◌, drop}
use Rattle.std.specs.Prelude.{map, option_map}
use Rattle.std.specs.List.{find}
use Rattle.ss_preamble.specs.View.{key_view}
use Rattle.ss_check.specs.ItemRules.{is_wrong_key}
use Rattle.ss_check.proofs.rules.keys.first_wrong_key.Given as goal

-- no key so far is wrong
abbrev pub invariant-loop-key : goal.invariant-loop-key
invariant-loop-key l =
    option_map (λ k. k.name) (find (is_wrong_key l.whole l.class) (map key_view (drop l.key-index l.keys)))
    ≡ option_map (λ k. k.name) (find (is_wrong_key l.whole l.class) (map key_view l.keys))
