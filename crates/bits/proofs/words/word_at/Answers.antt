-- `words::word_at` meets its contract: the word so far is what the bytes taken spell, and `Spelled` says that it fits. Assumes nothing.
use Rattle.std.proofs.Common.{◌≡◌, ◌++◌, List, [], ◌∷◌, ℕ, ◌+◌, ◌-◌, ◌*◌, ◌^◌, ◌<◌, ◌≤◌, refl, ap, sym, ◌∙◌, map, reverse, length, drop, take, get_or, length-drop, Bor, Some, rules, arith}
use lib.Seq.{take_all}
use Rattle.std.proofs.lemmas.List.{reverse-append, reverse-reverse, map-append}
use Rattle.std.specs.Slice.Iter.{iter_steps_back}
use Rattle.std.specs.Iterator.Adapters.{rev_steps}
use Rattle.std.proofs.lemmas.Fn.{serves_by, fold_over}
use Rattle.std.proofs.lemmas.Iterator.Adapters.{YieldsList-from_rev_slice}
use Rattle.std.proofs.lemmas.Iterator.Consumers.{YieldsList-so_far, YieldsList-turn}
use Rattle.digits.specs.Digits.{of_digits, number, Below}
use Rattle.digits.proofs.Lists.{lent, lent_is}
use Rattle.bits.proofs.Spelled.{spelled_back, turn_back, spelled_fits}
use Rattle.bits.proofs.words.word_at.Goals as goal

pub returns-then-bytes-at-ge8 : goal.returns-then-bytes-at-ge8
returns-then-bytes-at-ge8 c = c.read.ensures

-- no byte is taken
none : 0 ≡ number (reverse [])
unfolding of_digits
none = refl

-- one more is
more : (ys : List ℕ) (b word : ℕ) → word ≡ number (reverse ys) → word * 256 + b ≡ number (reverse (ys ++ (b ∷ [])))
unfolding of_digits
more ys b word e = ap (λ (x : ℕ). x * 256 + b) e ∙ ap number (sym (reverse-append ys (b ∷ [])))

more_of : (xs : List (Bor ℕ)) (x : Bor ℕ) (word : ℕ) → word ≡ number (reverse (map (λ (y : Bor ℕ). y.now) xs)) → word * 256 + x.now ≡ number (reverse (map (λ (y : Bor ℕ). y.now) (xs ++ (x ∷ []))))
more_of xs x word e = more (map (λ (y : Bor ℕ). y.now) xs) x.now word e ∙ ap (λ (l : List ℕ). number (reverse l)) (sym (map-append (λ (y : Bor ℕ). y.now) xs (x ∷ [])))

-- it fits, since there are not more than 8
fits_back : (bytes : List ℕ) (at : ℕ) → Below 256 bytes → length bytes - at ≤ 8 → (xs : List (Bor ℕ)) (x : Bor ℕ) (word : ℕ) → word ≡ number (reverse (map (λ (y : Bor ℕ). y.now) xs))
    → map (λ (y : Bor ℕ). y.now) xs ≡ take (length xs) (reverse (lent at bytes)) → (length xs < length (reverse (lent at bytes))) × (x.now ≡ get_or (reverse (lent at bytes)) (length xs) x.now) → word * 256 + x.now < 2 ^ 64
fits_back bytes at below few xs x word e so_far turn =
    let bs = lent at bytes in
    let ys = map (λ (y : Bor ℕ). y.now) xs in
    let n = length xs in
    spelled_fits bytes at below few (reverse (drop n (reverse bs))) (reverse (drop (n + 1) (reverse bs))) word x.now (spelled_back bs ys n word e so_far) (turn_back bs n x.now turn.0 turn.1)

pub fold-requires : goal.fold-requires
fold-requires c =
    let a = c.args in
    let bs = lent a.at a.bytes.now in
    let road = YieldsList-from_rev_slice {s = c.rev.result} bs (cc) in
    record {
      can = tt;
      finite = tt;
      callable = serves_by {A = Bor ℕ} {P = Unit {0} × ℕ} _ (λ (xs : List (Bor ℕ)) (q : Unit {0} × ℕ). q.1 ≡ number (reverse (map (λ (y : Bor ℕ). y.now) xs)))
          (λ xs q x v j k. let e : v.1 ≡ q.1 * 256 + x.now = search rules in e ∙ more_of xs x q.1 j) _ _ _ _ none
          (λ xs t q x u y step j.
          let fits = fits_back a.bytes.now a.at (λ i. (c.type_inv.bytes i).fits) (omega arith) xs x q.1 j (YieldsList-so_far road xs t y) (YieldsList-turn road xs t y (Some x) u x refl step) in
          (λ κs p n e r. record { fits = omega (arith, fits) }, λ κs p n e r i. record { fits = fits }));
    }

pub returns : goal.returns
returns c =
    let a = c.args in
    let bs = lent a.at a.bytes.now in
    let road = YieldsList-from_rev_slice {s = c.rev.result} bs (cc) in
    fold_over (rev_steps iter_steps_back) (λ (y : Bor ℕ). y.now) _ (λ (ys : List ℕ) (w : ℕ). w ≡ number (reverse ys)) _ (λ ys n x b f' j k. let e : b ≡ n * 256 + x.now = search rules in (e ∙ more ys x.now n j, refl)) _ (reverse bs) 0 c.fold.result road.runs none c.fold.ensures.ran
    ∙ ap number (reverse-reverse bs ∙ lent_is a.at a.bytes.now ∙ sym (take_all 8 (drop a.at a.bytes.now) (rw length-drop (omega arith))))
