-- what a change does to the documents
use Rattle.std.proofs.Common.{◌≡◌, ◌≢◌, ℕ, List, refl, ap, sym, ◌∙◌, cond, Bool, true, false, subst}
use Rattle.std.specs.Prelude.{Some, None, unwrap_or, if◌then◌else◌}
use Rattle.std.specs.Ordering.{eq_by_cmp}
use Rattle.std.specs.Cmp.Lexicographic.{nat_list_cmp_total}
use Rattle.std.specs.FinMap.{FinMap, get, insert, remove, get-insert, get-remove}
use Rattle.std.specs.Str.{bytes_eq}
use Rattle.std.proofs.lemmas.Slice.Eq.{bytes_eq-Decides}
use Rattle.std.proofs.lemmas.Map.Text.{is_eq-slice_cmp}
use Rattle.std.proofs.lemmas.Bool.{false_from_ne_true}
use Rattle.vb_types.specs.Keys.{key_cmp}
use Rattle.vb_types.specs.declared.change.Act.{Act}
use Rattle.vb_types.specs.declared.change.Act.TheVariants.{Set, Remove, Prepare, Commit, Abort}
use Rattle.vb_types.specs.declared.change.Change.{Change}
use Rattle.vb_types.specs.Images.{Picture, acted, applied, said, said_at}

differ : {A : Type 0} → false ≡ true → A
differ e = cc

-- two keys tie exactly where they are one
tied : (a b : List ℕ) → eq_by_cmp key_cmp a b ≡ bytes_eq a b
tied a b = is_eq-slice_cmp a b

tied_same : (a : List ℕ) → eq_by_cmp key_cmp a a ≡ true
tied_same a = tied a a ∙ (bytes_eq-Decides a a).1 refl

tied_other : (a b : List ℕ) → a ≢ b → eq_by_cmp key_cmp b a ≡ false
tied_other a b ne = tied b a ∙ false_from_ne_true _ (λ e. ne (sym ((bytes_eq-Decides b a).0 e)))

module _ {X : Type 0} where
  pub get-insert_same : (m : FinMap key_cmp X) (k : List ℕ) (v : X) → get (insert m k v) k ≡ Some v
  get-insert_same m k v = get-insert nat_list_cmp_total m k v k ∙ ap (λ b. cond b (Some v) (get m k)) (tied_same k)

  pub get-insert_other : (m : FinMap key_cmp X) (k : List ℕ) (v : X) (q : List ℕ) → k ≢ q → get (insert m k v) q ≡ get m q
  get-insert_other m k v q ne = get-insert nat_list_cmp_total m k v q ∙ ap (λ b. cond b (Some v) (get m q)) (tied_other k q ne)

  pub get-remove_same : (m : FinMap key_cmp X) (k : List ℕ) → get (remove m k) k ≡ None
  get-remove_same m k = get-remove nat_list_cmp_total m k k ∙ ap (λ b. cond b None (get m k)) (tied_same k)

  pub get-remove_other : (m : FinMap key_cmp X) (k q : List ℕ) → k ≢ q → get (remove m k) q ≡ get m q
  get-remove_other m k q ne = get-remove nat_list_cmp_total m k q ∙ ap (λ b. cond b None (get m q)) (tied_other k q ne)

same_acted : (image : Picture) (seq : ℕ) (key : List ℕ) (a : Act) → get (acted image seq key a).docs key ≡ unwrap_or (said a) (get image.docs key)
same_acted image seq key (Set doc) = get-insert_same image.docs key doc
same_acted image seq key (Remove cas rev) = get-remove_same image.docs key
same_acted image seq key (Prepare level doc deleted) = refl
same_acted image seq key (Commit prepared doc true) = get-remove_same image.docs key
same_acted image seq key (Commit prepared doc false) = get-insert_same image.docs key doc
same_acted image seq key (Abort prepared) = refl

pub other_acted : (image : Picture) (seq : ℕ) (key : List ℕ) (a : Act) (q : List ℕ) → key ≢ q → get (acted image seq key a).docs q ≡ get image.docs q
other_acted image seq key (Set doc) q ne = get-insert_other image.docs key doc q ne
other_acted image seq key (Remove cas rev) q ne = get-remove_other image.docs key q ne
other_acted image seq key (Prepare level doc deleted) q ne = refl
other_acted image seq key (Commit prepared doc true) q ne = get-remove_other image.docs key q ne
other_acted image seq key (Commit prepared doc false) q ne = get-insert_other image.docs key doc q ne
other_acted image seq key (Abort prepared) q ne = refl

by_key : (image : Picture) (change : Change) (q : List ℕ) (b : Bool) → bytes_eq change.key q ≡ b → get (applied image change).docs q ≡ unwrap_or (if b then said change.act else None) (get image.docs q)
by_key image change q true e = subst (λ k. get (applied image change).docs k ≡ unwrap_or (said change.act) (get image.docs k)) ((bytes_eq-Decides change.key q).0 e) (same_acted image change.seq change.key change.act)
by_key image change q false e = other_acted image change.seq change.key change.act q (λ same. differ (sym e ∙ (bytes_eq-Decides change.key q).1 same))

-- the document of a key after a change
pub docs-applied : (image : Picture) (change : Change) (q : List ℕ) → get (applied image change).docs q ≡ unwrap_or (said_at change q) (get image.docs q)
docs-applied image change q = by_key image change q (bytes_eq change.key q) refl
