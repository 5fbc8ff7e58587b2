-- `walk::VectorClone::clone` meets its contract: its parts' clones are the parts. Assumes nothing.
use Rattle.std.proofs.Common.{◌≡◌, sym, subst}
use Rattle.std.proofs.Math.Nat.{ℕ_set}
use Rattle.bits.specs.declared.word.Word as word
use Rattle.decimal.specs.declared.value.Value as value
use Rattle.decimal.specs.declared.scale.Scale.{Scale}
use Rattle.inspect.specs.declared.walk.Fields.{Fields}
use Rattle.inspect.specs.declared.walk.Lists.{Lists}
use Rattle.inspect.specs.declared.walk.Vector.{Vector}
use Rattle.inspect.proofs.walk.VectorClone.clone.Goals as goal

module _ {A F : Type 0} {v : value.Ghosts A F} {w : word.Ghosts A} (k : Vector A F v w) where
  vector : (f : Fields A F v w) (l : Lists A F v w) (s : Scale A F v w) → f.count ≡ l.count → Vector A F v w
  vector f l s one = record { number = k.number; fields = f; lists = l; scale = s; one_count = one }

  same : (f : Fields A F v w) (l : Lists A F v w) (s : Scale A F v w) → f ≡ k.fields → l ≡ k.lists → s ≡ k.scale → (one : f.count ≡ l.count) → vector f l s one ≡ k
  unfolding vector
  same f l s ef el es =
      subst (λ (f : Fields A F v w). (one : f.count ≡ l.count) → vector f l s one ≡ k) (sym ef)
      (subst (λ (l : Lists A F v w). (one : k.fields.count ≡ l.count) → vector k.fields l s one ≡ k) (sym el)
      (subst (λ (s : Scale A F v w). (one : k.fields.count ≡ k.lists.count) → vector k.fields k.lists s one ≡ k) (sym es)
      (λ one i. record { number = k.number; fields = k.fields; lists = k.lists; scale = k.scale; one_count = ℕ_set k.fields.count k.lists.count one k.one_count i })))

pub returns : goal.returns
unfolding vector
returns g c = record { cases = same c.args.self.now _ _ _ c.in_ok-clone.ensures.cases c.in_ok-clone-2.ensures.cases c.in_ok-clone-3.ensures.cases _ }
