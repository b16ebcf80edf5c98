-- Parts of a text that are written.
use Rattle.std.proofs.Common.{◌≡◌, ℕ, ◌+◌, ◌<◌, List, [], ◌++◌, length, map, get_or, sym, ap, ◌∙◌}
use Rattle.std.proofs.Common.{Option, arith, length-append}
use Rattle.std.specs.Io.KnownBytes.{Appends}
use Rattle.std.proofs.lemmas.List.{get_or-map, length-map}
use Rattle.std.proofs.Math.Seq.{take-append-add, take-length}
use Rattle.ss_session.specs.Written.{WritesPart}
use Rattle.ss_session.proofs.Pieces.{appends_then, appends_none}

-- nothing of a text
pub part_none : (x : List ℕ) (a : Option (List ℕ)) → WritesPart x a a
part_none x a = record { count = 0; within = omega arith; said = appends_none a }

-- all of it
pub part_whole : (x : List ℕ) (a b : Option (List ℕ)) → Appends a b x → WritesPart x a b
part_whole x a b h = record { count = length x; within = omega arith; said = rw (take-length x) h }

-- a part of a text after another text
pub part_behind : (x y : List ℕ) (a b c : Option (List ℕ)) → Appends a b x → WritesPart y b c → WritesPart (x ++ y) a c
part_behind x y a b c h p = record {
  count = length x + p.count;
  within = omega (arith, length-append x y, p.within);
  said = rw (take-append-add x y p.count) (appends_then a b c _ _ h p.said);
}

-- an answer of some
pub answer_of : {X V : Type 0} → (items : V → List ℕ) (f : X → List ℕ) (vs : List V) (xs : List X) (k : ℕ) (v : V)
    (x : X) → map items vs ≡ map f xs → k < length xs → v ≡ get_or vs k v → x ≡ get_or xs k x → items v ≡ f x
answer_of items f vs xs k v x e h p q =
    let l : length vs ≡ length xs = sym (length-map vs items) ∙ ap length e ∙ length-map xs f in
    ap items p ∙ sym (get_or-map items vs k v [] (omega (arith, l))) ∙ ap (λ ys. get_or ys k []) e
    ∙ get_or-map f xs k x [] h ∙ sym (ap f q)
