use Rattle.std.proofs.Common.{◌≡◌, refl, arith, rules, position, bytes_eq}
use Rattle.std.proofs.lemmas.Grind.{common_steps}
use Rattle.ss_program.proofs.program.Program.numbers.Goals as goal

pub returns : goal.returns
returns c =
    let name = c.args.name.now in
    let program = c.args.self.now in
    let variable : c.number.result ≡ position (bytes_eq name) program.globals =
    first_of (search rules, grind (arith, common_steps)) in
    let class : c.number-2.result ≡ position (λ t. bytes_eq name t.name) program.classes =
    first_of (search rules, grind (arith, common_steps)) in
    let set : c.number-3.result ≡ position (λ t. bytes_eq name t.name) program.sets =
    first_of (search rules, grind (arith, common_steps)) in
    rw (variable, class, set) refl
