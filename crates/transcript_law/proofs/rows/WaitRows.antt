-- who is forgotten at a call, and who is not, judged by hand
use Rattle.std.specs.Prelude.{◌≡◌, ◌<◌, ◌∷◌, ◌==◌, if◌then◌else◌}
use Rattle.transcript_law.proofs.Words.{ℕ, Bool, true, false, List, [], refl, ap, sym, ◌∙◌, subst, inl, inr, ⊎_elim, arith, eq-eqb, Option, Some, None, Plain, PlainNode, States, VbReply, Write}
use Rattle.vb_calls.specs.Durable.{Wish}
use Rattle.vb_types.specs.declared.change.Level.TheVariants.{Majority, PersistMajority}
use Rattle.client_session.specs.declared.session.Awaited.{Awaited}
use Rattle.durability.specs.Laws.{Waits}
use Rattle.durability.specs.declared.waiting.Waiting.{Waiting}
use Rattle.transcript_law.specs.Waits.{ForgetsNone, IsItsWish, IsOutstandingAt, LeavesOthers, NoneWaitsInVain, WaitsAsAsked, one_waits, told_one, waits_elsewhere, waits_for_ever, waits_higher, waits_later, waits_longer, with_one_at, with_only, with_told, with_waiting}
use Rattle.node_core.specs.Clients.{PlainClient}

number : (w v : Waiting) → w ≡ v → w.waiter ≡ v.waiter
number w v e = ap (λ (x : Waiting). x.waiter) e

-- none of these is the one that waits
pub no_elsewhere : one_waits 7 ≡ waits_elsewhere → ⊥
no_elsewhere e = let z : ◌≡◌ {A = List ℕ} (107 ∷ []) (108 ∷ []) = ap (λ (x : Waiting). x.key) e in let n : ◌≡◌ {A = ℕ} 107 108 = cc z in omega (arith, n)

pub no_later : one_waits 7 ≡ waits_later → ⊥
no_later e = let n : ◌≡◌ {A = ℕ} 5 6 = ap (λ (x : Waiting). x.seq) e in omega (arith, n)

pub no_higher : one_waits 7 ≡ waits_higher → ⊥
no_higher e = let z : Majority ≡ PersistMajority = ap (λ (x : Waiting). x.level) e in cc

pub no_longer : one_waits 7 ≡ waits_longer → ⊥
no_longer e = let z : ◌≡◌ {A = Option ℕ} (Some 1) (Some 2) = ap (λ (x : Waiting). x.deadline) e in let n : ◌≡◌ {A = ℕ} 1 2 = cc z in omega (arith, n)

pub no_for_ever : one_waits 7 ≡ waits_for_ever → ⊥
no_for_ever e = let z : ◌≡◌ {A = Option ℕ} (Some 1) None = ap (λ (x : Waiting). x.deadline) e in cc

module _ (vb : Plain) (reply : VbReply) where
  pub stays : ForgetsNone (with_waiting vb (one_waits 7 ∷ [])) (with_waiting vb (one_waits 7 ∷ []), with_told reply [])
  stays w some i = inl i

  pub told : ForgetsNone (with_waiting vb (one_waits 7 ∷ [])) (with_waiting vb [], with_told reply (told_one 7))
  told w some i = ⊎_elim (λ e. inr (inl (sym (number w (one_waits 7) e)))) (λ none. absurd none) i

  pub untold : ForgetsNone (with_waiting vb (one_waits 7 ∷ [])) (with_waiting vb [], with_told reply []) → ⊥
  untold f = ⊎_elim (λ x. x) (λ x. x) (f (one_waits 7) (λ e. omega (arith, e)) (inl refl))

  pub other : ForgetsNone (with_waiting vb (one_waits 7 ∷ [])) (with_waiting vb [], with_told reply (told_one 8)) → ⊥
  other f = ⊎_elim (λ x. x) (λ t. ⊎_elim (λ e. omega (arith, e)) (λ x. x) t) (f (one_waits 7) (λ e. omega (arith, e)) (inl refl))

  pub renumbered : ForgetsNone (with_waiting vb (one_waits 7 ∷ [])) (with_waiting vb (one_waits 8 ∷ []), with_told reply []) → ⊥
  renumbered f = ⊎_elim (λ t. ⊎_elim (λ e. let n : ◌≡◌ {A = ℕ} 7 8 = number (one_waits 7) (one_waits 8) e in omega (arith, n)) (λ x. x) t) (λ x. x) (f (one_waits 7) (λ e. omega (arith, e)) (inl refl))

  -- nor does one that leaves it as another one
  pub changed : (x : Waiting) → (one_waits 7 ≡ x → ⊥) → ForgetsNone (with_waiting vb (one_waits 7 ∷ [])) (with_waiting vb (x ∷ []), with_told reply []) → ⊥
  changed x differs f = ⊎_elim (λ t. ⊎_elim differs (λ none. none) t) (λ none. none) (f (one_waits 7) (λ e. omega (arith, e)) (inl refl))

  -- what is outstanding behind a write is what it asks for
  module _ (write : Write) (wish : Wish) (its : IsItsWish write wish) where
    asked : record { key = write.key; seq = 5; level = wish.level; deadline = Some wish.deadline; waiter = wish.waiter } ≡ one_waits 7
    asked = λ i. record { key = its.key i; seq = 5; level = its.level i; deadline = Some (its.deadline i); waiter = its.waiter i }

    pub placed : WaitsAsAsked write wish 5 (with_waiting vb (one_waits 7 ∷ []), with_told reply [])
    placed = inl (inl asked)

    pub placed_told : WaitsAsAsked write wish 5 (with_waiting vb [], with_told reply (told_one 7))
    placed_told = inr (inl (sym its.waiter))

    pub placed_so : (x : Waiting) → (one_waits 7 ≡ x → ⊥) → WaitsAsAsked write wish 5 (with_waiting vb (x ∷ []), with_told reply []) → ⊥
    placed_so x differs f = ⊎_elim (λ t. ⊎_elim (λ e. differs (sym asked ∙ e)) (λ none. none) t) (λ none. none) f

    pub placed_other : WaitsAsAsked write wish 5 (with_waiting vb (one_waits 8 ∷ []), with_told reply (told_one 8)) → ⊥
    placed_other f = ⊎_elim
        (λ t. ⊎_elim (λ e. let n : ◌≡◌ {A = ℕ} 7 8 = number (one_waits 7) (one_waits 8) (sym asked ∙ e) in omega (arith, n)) (λ none. none) t)
        (λ t. ⊎_elim (λ e. let n : ◌≡◌ {A = ℕ} 8 7 = e ∙ its.waiter in omega (arith, n)) (λ none. none) t) f

    pub placed_untold : WaitsAsAsked write wish 5 (with_waiting vb [], with_told reply []) → ⊥
    placed_untold f = ⊎_elim (λ none. none) (λ none. none) f

  pub nobody : ForgetsNone (with_waiting vb (one_waits 0 ∷ [])) (with_waiting vb [], with_told reply [])
  nobody w some i = ⊎_elim (λ e. absurd (some (number w (one_waits 0) e))) (λ none. absurd none) i

  pub left : LeavesOthers (with_waiting vb (one_waits 7 ∷ [])) (with_waiting vb (one_waits 7 ∷ one_waits 8 ∷ []), reply)
  left w i = ⊎_elim (λ e. inl e) (λ none. absurd none) i

  pub taken : LeavesOthers (with_waiting vb (one_waits 7 ∷ [])) (with_waiting vb (one_waits 8 ∷ []), with_told reply (told_one 7)) → ⊥
  taken f = ⊎_elim (λ e. let n : ◌≡◌ {A = ℕ} 7 8 = number (one_waits 7) (one_waits 8) e in omega (arith, n)) (λ x. x) (f (one_waits 7) (inl refl))

-- ---- who waits for nothing

number_at : (k m : ℕ) (vb : Plain) (states : States) → ((v : ℕ) (x : Plain) → states v ≡ Some x → x ≡ with_waiting vb (one_waits m ∷ [])) → IsOutstandingAt k states → m ≡ k
number_at k m vb states only o =
    ⊎_elim (λ e. sym (number o.w (one_waits m) e) ∙ o.number) (λ none. absurd none) (subst (λ (x : Plain). Waits o.w x.waiting) (only o.v o.vb o.there) o.among)

module _ (node : PlainNode) (client : PlainClient) where
  only_one : (vb : Plain) (v : ℕ) (x : Plain) → (with_only node client (Some vb)).vbs v ≡ Some x → x ≡ vb
  only_one vb v x e = by (v == 0) e
    where
      by : (b : Bool) → (if b then Some vb else None) ≡ Some x → x ≡ vb
      by true k = cc
      by false k = absurd (cc k)

  pub no_one : (v : ℕ) (x : Plain) → (with_only node client None).vbs v ≡ Some x → ⊥
  no_one v x e = by (v == 0) e
    where
      by : (b : Bool) → (if b then None else None) ≡ Some x → ⊥
      by true k = cc
      by false k = cc

  pub vain_idle : client.session.awaited ≡ None → NoneWaitsInVain (with_only node client None)
  vain_idle idle c x a lt is has = let same : client ≡ x = cc in let z : None ≡ Some a = sym idle ∙ ap (λ (k : PlainClient). k.session.awaited) same ∙ has in absurd (cc z)

  module _ (a : Awaited) where
    pub vain_waits : (vb : Plain) → client.session.awaited ≡ Some a → a.waiter ≡ 7 → NoneWaitsInVain (with_only node client (Some (with_waiting vb (one_waits 7 ∷ []))))
    vain_waits vb awaits seven c x b lt is has =
        let same : client ≡ x = cc in let z : Some a ≡ Some b = sym awaits ∙ ap (λ (k : PlainClient). k.session.awaited) same ∙ has in let one : a ≡ b = cc in
        record { v = 0; vb = with_waiting vb (one_waits 7 ∷ []); there = refl; w = one_waits 7; among = inl refl; number = sym seven ∙ ap (λ (k : Awaited). k.waiter) one }

    pub vain_other : (vb : Plain) → client.session.awaited ≡ Some a → a.waiter ≡ 7 → NoneWaitsInVain (with_only node client (Some (with_waiting vb (one_waits 8 ∷ [])))) → ⊥
    vain_other vb awaits seven none = let e = number_at a.waiter 8 vb _ (only_one (with_waiting vb (one_waits 8 ∷ []))) (none 0 client a (omega arith) refl awaits) in omega (arith, e, seven)

    pub vain_nothing : (vb : Plain) → client.session.awaited ≡ Some a → a.waiter ≡ 7 → NoneWaitsInVain (with_only node client (Some (with_waiting vb []))) → ⊥
    vain_nothing vb awaits seven none =
        let o = none 0 client a (omega arith) refl awaits in subst (λ (x : Plain). Waits o.w x.waiting) (only_one (with_waiting vb []) o.v o.vb o.there) o.among

    pub vain_any : (c : ℕ) → c < 1000 → client.session.awaited ≡ Some a → NoneWaitsInVain (with_one_at node c client) → ⊥
    vain_any c low awaits none = let o = none c client a low (ap (λ b. if b then Some client else None) (eq-eqb c c refl)) awaits in let z : None ≡ Some o.vb = o.there in cc

    pub vain_nowhere : client.session.awaited ≡ Some a → a.waiter ≡ 7 → NoneWaitsInVain (with_only node client None) → ⊥
    vain_nowhere awaits seven none = let o = none 0 client a (omega arith) refl awaits in no_one o.v o.vb o.there
