-- Laws of lists: facts of every element, and what a stretch put into a list leaves. Assumes nothing.
use mathlib.Core.Path.{◌≡◌, sym, ap, ap₂, ◌∙◌}
use Prim.Native.Nat.{ℕ, zero, suc, ◌+◌, ◌-◌, ◌<◌, ◌≤◌}
use native.Mathlib.Nat.{add-zero, add_assoc}
use native.Mathlib.Omega.{arith}
use mathlib.Core.List.{List, [], ◌∷◌, ◌++◌, map, append_assoc, append-nil}
use lib.ListN.{length, get_or, take, drop, length-append, length-take, length-drop}
use lib.Seq.{get_or-drop, take_at, drop_at, drop-drop, take-length, drop-length, drop-append-add, drop-append-le}
use Rattle.digits.specs.Lists.{Each, over, put_at}
use Rattle.digits.specs.Digits.{Below}

-- ---- a fact of every element

pub each_append : {A : Type 0} (P : A → Type 0) (xs ys : List A) → Each P xs → Each P ys → Each P (xs ++ ys)
each_append P [] ys h k = k
each_append P (x ∷ xs) ys h k = (h.0, each_append P xs ys h.1 k)

pub each_map : {A : Type 0} (P Q : A → Type 0) → ((x : A) → P x → Q x) → (xs : List A) → Each P xs → Each Q xs
each_map P Q f [] h = tt
each_map P Q f (x ∷ xs) h = (f x h.0, each_map P Q f xs h.1)

pub each_of_map : {A B : Type 0} (P : B → Type 0) (g : A → B) (xs : List A) → Each (λ (x : A). P (g x)) xs → Each P (map g xs)
each_of_map P g [] h = tt
each_of_map P g (x ∷ xs) h = (h.0, each_of_map P g xs h.1)

pub each_both : {A : Type 0} (P Q : A → Type 0) (xs : List A) → Each P xs → Each Q xs → Each (λ (x : A). P x × Q x) xs
each_both P Q [] h k = tt
each_both P Q (x ∷ xs) h k = ((h.0, k.0), each_both P Q xs h.1 k.1)

pub each_all : {A : Type 0} (P : A → Type 0) → ((x : A) → P x) → (xs : List A) → Each P xs
each_all P f [] = tt
each_all P f (x ∷ xs) = (f x, each_all P f xs)

pub each_take : {A : Type 0} (P : A → Type 0) (n : ℕ) (xs : List A) → Each P xs → Each P (take n xs)
each_take P zero xs h = tt
each_take P (suc n) [] h = tt
each_take P (suc n) (x ∷ xs) h = (h.0, each_take P n xs h.1)

pub each_drop : {A : Type 0} (P : A → Type 0) (n : ℕ) (xs : List A) → Each P xs → Each P (drop n xs)
each_drop P zero xs h = h
each_drop P (suc n) [] h = tt
each_drop P (suc n) (x ∷ xs) h = each_drop P n xs h.1

-- below b, said of every element or of every index
pub each_below : (b : ℕ) (ds : List ℕ) → 0 < b → Each (λ (d : ℕ). d < b) ds → Below b ds
each_below b [] h e i = h
each_below b (d ∷ ds) h e zero = e.0
each_below b (d ∷ ds) h e (suc i) = each_below b ds h e.1 i

pub below_each : (b : ℕ) (ds : List ℕ) → Below b ds → Each (λ (d : ℕ). d < b) ds
below_each b [] h = tt
below_each b (d ∷ ds) h = (h zero, below_each b ds (λ i. h (suc i)))

-- the first element from n on
pub front_at : (n : ℕ) (l : List ℕ) → get_or (drop n l) 0 0 ≡ get_or l n 0
front_at n l = get_or-drop n l 0 0 ∙ ap (λ (k : ℕ). get_or l k 0) (add-zero n)

-- ---- a stretch put into a list

pub length_over : (w d : List ℕ) → length w ≤ length d → length (over w d) ≡ length d
length_over w d h = simp (length-append, length-drop) (omega arith)

pub length-put_at : (a : ℕ) (w d : List ℕ) → a + length w ≤ length d → length (put_at a w d) ≡ length d
length-put_at a w d h = simp (length-append, length-take, length-drop) (omega arith)

pub put_seam : (p q w : List ℕ) (a : ℕ) → length p ≡ a → put_at a w (p ++ q) ≡ p ++ over w q
put_seam p q w a e =
    ap₂ (λ (x y : List ℕ). x ++ (w ++ y)) (take_at p q a e) (ap (λ (n : ℕ). drop (n + length w) (p ++ q)) (sym e) ∙ drop-append-add p q (length w))

-- two stretches, one behind the other
pub put_put : (a : ℕ) (w v d : List ℕ) → a ≤ length d → put_at (a + length w) v (put_at a w d) ≡ put_at a (w ++ v) d
put_put a w v d h =
    let done = take a d ++ w in
    let l : length done ≡ a + length w = simp (length-append, length-take) (omega arith) in
    ap (put_at (a + length w) v) (sym (append_assoc (take a d) w (drop (a + length w) d)))
    ∙ put_seam done (drop (a + length w) d) v (a + length w) l
    ∙ simp (drop-drop, length-append, append_assoc, add_assoc)

-- the part of o that `&mut o[at..]` lends, and o with that part given back as ys
abbrev pub lent : ℕ → List ℕ → List ℕ
lent at o = take (length o - at) (drop at o)

abbrev pub given_back : ℕ → List ℕ → List ℕ → List ℕ
given_back at o ys = take at o ++ (ys ++ drop (length o - at) (drop at o))

pub lent_is : (at : ℕ) (o : List ℕ) → lent at o ≡ drop at o
lent_is at o = ap (λ (n : ℕ). take n (drop at o)) (sym (length-drop at o)) ∙ take-length (drop at o)

none_left : (at : ℕ) (o : List ℕ) → drop (length o - at) (drop at o) ≡ []
none_left at o = ap (λ (n : ℕ). drop n (drop at o)) (sym (length-drop at o)) ∙ drop-length (drop at o)

-- what a callee that wrote w at the front of the lent part leaves of the whole
pub lent_back : (a : ℕ) (w d : List ℕ) → given_back a d (over w (lent a d)) ≡ put_at a w d
lent_back a w d = rw (lent_is a d, none_left a d, append-nil, drop-drop)

-- and where the whole was itself written up to there
pub over-next : (p w d : List ℕ) (at : ℕ) → length p ≡ at → given_back at (over p d) (over w (lent at (over p d))) ≡ over (p ++ w) d
over-next p w d at e =
    let o = over p d in
    let rest : drop at o ≡ drop (length p) d = drop_at p (drop (length p) d) at e in
    rw (lent_is at o, none_left at o, append-nil, take_at p (drop (length p) d) at e, rest, drop-drop, length-append, append_assoc)

-- two stretches, one in front of a gap and one behind what follows the gap
pub two-regions : (p g q r w v : List ℕ) (a b : ℕ) → length p ≡ a → length w ≤ length g → length p + length g + length q ≡ b
    → put_at b v (put_at a w (p ++ (g ++ (q ++ r)))) ≡ (p ++ w) ++ (drop (length w) g ++ ((q ++ v) ++ drop (length v) r))
two-regions p g q r w v a b e h k =
    let P = (p ++ w) ++ (drop (length w) g ++ q) in
    let first : put_at a w (p ++ (g ++ (q ++ r))) ≡ P ++ r =
    put_seam p (g ++ (q ++ r)) w a e ∙ ap (λ (l : List ℕ). p ++ (w ++ l)) (drop-append-le (length w) g (q ++ r) h) ∙ simp append_assoc in
    let len : length P ≡ b = simp (length-append, length-drop) (omega arith) in
    ap (put_at b v) first ∙ put_seam P r v b len ∙ simp append_assoc
