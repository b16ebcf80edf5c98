-- A list whose items are turned one by one, and the lists that a function makes of them.
use Rattle.std.proofs.Common.{◌≡◌, ℕ, zero, suc, ◌+◌, ◌<◌, List, [], ◌∷◌, ◌++◌, length, map, take, drop, get_or}
use Rattle.std.proofs.Common.{refl, sym, ap, ◌∙◌, arith, slice_set, add-one, append_assoc, append-nil}
use Rattle.std.specs.List.{flat_map}

-- the item that is turned next
pub next_there : {X V W : Type 0} → (f g : X → W) (h : V → W) (xs : List X) (vs : List V) (k : ℕ) (v : V) (x : X) →
    k < length xs → v ≡ get_or vs k v → x ≡ get_or xs k x → map h vs ≡ map g (take k xs) ++ map f (drop k xs) →
    h v ≡ f x
next_there f g h [] vs k v x l p e m = absurd (omega (arith, l))
next_there f g h (y ∷ ys) [] zero v x l p e m = absurd (cc)
next_there f g h (y ∷ ys) [] (suc k) v x l p e m = absurd (cc)
next_there f g h (y ∷ ys) (w ∷ ws) zero v x l p e m = let head : h w ≡ f y = cc in ap h p ∙ head ∙ sym (ap f e)
next_there f g h (y ∷ ys) (w ∷ ws) (suc k) v x l p e m =
    next_there f g h ys ws k v x (omega (arith, l)) p e (ap (λ zs. drop 1 zs) m)

turned_at : {X V W : Type 0} → (f g : X → W) (h : V → W) (xs : List X) (vs : List V) (k : ℕ) (v : V) (x : X) →
    k < length xs → x ≡ get_or xs k x → h v ≡ g x → map h vs ≡ map g (take k xs) ++ map f (drop k xs) →
    map h (slice_set vs k v) ≡ map g (take (suc k) xs) ++ map f (drop (suc k) xs)
turned_at f g h [] vs k v x l e t m = absurd (omega (arith, l))
turned_at f g h (y ∷ ys) [] zero v x l e t m = absurd (cc)
turned_at f g h (y ∷ ys) [] (suc k) v x l e t m = absurd (cc)
turned_at f g h (y ∷ ys) (w ∷ ws) zero v x l e t m =
    let tail : map h ws ≡ map f ys = ap (λ zs. drop 1 zs) m in
    let head : h v ≡ g y = t ∙ ap g e in
    rw (head, tail) refl
turned_at f g h (y ∷ ys) (w ∷ ws) (suc k) v x l e t m =
    let head : h w ≡ g y = cc in
    rw (head, turned_at f g h ys ws k v x (omega (arith, l)) e t (ap (λ zs. drop 1 zs) m)) refl

-- the list after that
pub turned : {X V W : Type 0} → (f g : X → W) (h : V → W) (xs : List X) (vs : List V) (k : ℕ) (v : V) (x : X) →
    k < length xs → x ≡ get_or xs k x → h v ≡ g x → map h vs ≡ map g (take k xs) ++ map f (drop k xs) →
    map h (slice_set vs k v) ≡ map g (take (k + 1) xs) ++ map f (drop (k + 1) xs)
turned f g h xs vs k v x l e t m = rw add-one (turned_at f g h xs vs k v x l e t m)

told_at : {X A : Type 0} → (f : X → List A) (xs : List X) (k : ℕ) (x : X) → k < length xs → x ≡ get_or xs k x →
    flat_map f (take (suc k) xs) ≡ flat_map f (take k xs) ++ f x
told_at f [] k x l e = absurd (omega (arith, l))
told_at f (y ∷ ys) zero x l e = append-nil (f y) ∙ sym (ap f e)
told_at f (y ∷ ys) (suc k) x l e =
    ap (λ zs. f y ++ zs) (told_at f ys k x (omega (arith, l)) e)
    ∙ sym (append_assoc (f y) (flat_map f (take k ys)) (f x))

-- the list of one item more
pub told_more : {X A : Type 0} → (f : X → List A) (xs : List X) (k : ℕ) (x : X) (first old new : List A) →
    k < length xs → x ≡ get_or xs k x → old ≡ first ++ flat_map f (take k xs) → new ≡ old ++ f x →
    new ≡ first ++ flat_map f (take (k + 1) xs)
told_more f xs k x first old new l e h n =
    let more : old ++ f x ≡ first ++ flat_map f (take (suc k) xs) =
    ap (λ zs. zs ++ f x) h ∙ append_assoc first (flat_map f (take k xs)) (f x)
    ∙ ap (λ zs. first ++ zs) (sym (told_at f xs k x l e)) in
    rw add-one (n ∙ more)
