-- what a log says of a request is worth, told of kin
use Rattle.std.proofs.Common.{◌≡◌, ℕ, ◌<◌, ◌≤◌, cond, List, [], ◌∷◌, eqb, refl, ap, sym, ◌∙◌, subst, inl, inr, ⊎_elim, arith}
use Rattle.std.specs.Prelude.{Option, Some, None, ◌⊎◌, ◌-◌, ◌^◌}
use Rattle.std.proofs.lemmas.Bool.{cases_lt, cases_Bool, eqb-true, le-leb, lt-leb}
use Rattle.vb_types.specs.Histories.{upto, Rises}
use Rattle.vb_types.specs.declared.position.Position.{Position}
use Rattle.vb_types.specs.declared.role.LogEntry.{LogEntry}
use Rattle.vb_types.specs.declared.stream.StreamAsk.{StreamAsk}
use Rattle.vb_types.specs.declared.stream.Verdict.TheVariants.{Continue}
use Rattle.branch_model.specs.Trees.{hist}
use Rattle.branch_model.specs.Logs.{front, upper, entry_for, uuid_of, Traces, Falls, FallsByAge, AncestryBy, IsFront, kept_to}
use Rattle.branch_model.specs.Requests.{reach_of, request_of, rule}
use Rattle.cluster_model.specs.Clusters.{Ground, Settled, Kin}
use Rattle.branch_model.proofs.Lists.{upto_none}
use Rattle.branch_model.proofs.Ruling.{upper_le, continue_top, reach_zero, uuid_rules}
use Rattle.cluster_model.proofs.Carrying.{settled_down, kin_down, kin_trans, kin_refl, kin_sym}

-- the branch of an entry is kin to u as far as the entry goes
kin_upper : (g : Ground) (log : List LogEntry) (u n x top m : ℕ) → Traces (Kin g) log u n → Falls log n → upper n log x ≡ Some top → m ≤ top → Kin g x u m
kin_upper g [] u n x top m tr f e l = cc
kin_upper g (a ∷ older) u n x top m tr f e l = ⊎_elim
    (λ t. let k : Some n ≡ Some top = sym (ap (λ b. cond b (Some n) (upper a.seq older x)) t) ∙ e in let j : n ≡ top = cc in
    subst (λ y. Kin g y u m) (eqb-true a.uuid x t) (kin_down g a.uuid u m n (omega arith) tr.0))
    (λ t. let k : upper a.seq older x ≡ Some top = sym (ap (λ b. cond b (Some n) (upper a.seq older x)) t) ∙ e in
    let j = upper_le a.seq older x top f.1 k in
    let fa : a.seq ≤ n = f.0 in
    kin_trans g x a.uuid u m (kin_upper g older a.uuid a.seq x top m tr.1 f.1 k l) (kin_down g a.uuid u m n (omega arith) tr.0))
    (cases_Bool (eqb a.uuid x))

-- at a log whose front is the branch itself
kin_front : (g : Ground) (log : List LogEntry) (u n x top m s : ℕ) → Settled g u s → Traces (Kin g) log u n → FallsByAge log → IsFront log u → upper n log x ≡ Some top → m ≤ top → Kin g x u m
kin_front g [] u n x top m s st tr f w e l = cc
kin_front g (a ∷ older) u n x top m s st tr f w e l = ⊎_elim
    (λ t. let k : x ≡ u = sym (eqb-true a.uuid x t) ∙ w in subst (λ y. Kin g y u m) (sym k) (kin_refl g u m s st))
    (λ t. subst (λ y. Kin g x y m) w
    (kin_upper g older a.uuid a.seq x top m tr.1 f (sym (ap (λ b. cond b (Some n) (upper a.seq older x)) t) ∙ e) l))
    (cases_Bool (eqb a.uuid x))

-- whom a consumer names is kin to its branch
kin_named : (g : Ground) (log : List LogEntry) (u n m : ℕ) (e : LogEntry) → Traces (Kin g) log u n → m ≤ n → entry_for m log ≡ Some e → Kin g e.uuid u m
kin_named g [] u n m e t l q = cc
kin_named g (a ∷ older) u n m e t l q = ⊎_elim
    (λ k. let j : Some a ≡ Some e = sym (ap (λ b. front (cond b (a ∷ kept_to m older) (kept_to m older))) (le-leb a.seq m k)) ∙ q in let i : a ≡ e = cc in
    subst (λ (x : LogEntry). Kin g x.uuid u m) i (kin_down g a.uuid u m n l t.0))
    (λ k. kin_trans g e.uuid a.uuid u m
    (kin_named g older a.uuid a.seq m e t.1 (omega arith) (sym (ap (λ b. front (cond b (a ∷ kept_to m older) (kept_to m older))) (lt-leb a.seq m k)) ∙ q))
    (kin_down g a.uuid u m n l t.0))
    (cases_le a.seq m)
  where
    cases_le : (x y : ℕ) → (x ≤ y) ⊎ (y < x)
    cases_le x y = ⊎_elim (λ k. inr k) (λ k. inl k) (cases_lt y x)

-- the request of a consumer whose log has the entry o for it
asks : Position → Option LogEntry → StreamAsk
asks p o = record { flags = 0; start = p.at; end = 2 ^ 64 - 1; uuid = uuid_of o; ss = p.ss; se = p.se }

kin_asked : (g : Ground) (log mine : List LogEntry) (br u high s : ℕ) (p : Position) (o : Option LogEntry) → entry_for (reach_of p) mine ≡ o → Settled g u s → Traces (Kin g) mine br (reach_of p)
    → AncestryBy (Kin g) g.tree log u high → IsFront log u → 0 < p.at → rule log high (asks p o) ≡ Continue → Kin g br u (reach_of p)
unfolding asks
kin_asked g log mine br u high s p None q st t an w l e = absurd (uuid_rules high log (asks p None) l refl e)
kin_asked g log mine br u high s p (Some x) q st t an w l e =
    let n = reach_of p in
    let k = continue_top log high (asks p (Some x)) l e in
    kin_trans g br x.uuid u n (kin_sym g x.uuid br n (kin_named g mine br n n x t (omega arith) q)) (kin_front g log u high x.uuid k.0 n s st an.traces an.falls w k.1 k.2)

-- a consumer that a producer lets continue is kin to it up to the effective end
pub kin_adopt : (g : Ground) (log mine : List LogEntry) (br u high top s r : ℕ) (p : Position) → ((x : ℕ) → Rises 0 top (hist g.tree x)) → Settled g br r → Settled g u s → Traces (Kin g) mine br (reach_of p) → p.ss ≤ p.at
    → AncestryBy (Kin g) g.tree log u high → IsFront log u → rule log high (request_of mine p) ≡ Continue → Kin g br u (reach_of p)
unfolding asks
kin_adopt g log mine br u high top s r p rs sb st t b an w e = ⊎_elim
    (λ (l : 0 < p.at). kin_asked g log mine br u high s p (entry_for (reach_of p) mine) refl st t an w l e)
    (λ (l : p.at ≤ 0). let z = reach_zero p.ss p.se p.at b (omega arith) in
    let v : (x : ℕ) → upto (hist g.tree x) 0 ≡ [] = λ x. upto_none 0 top 0 (hist g.tree x) (rs x) (omega arith) in
    subst (λ n. Kin g br u n) (sym z) (inr (v br ∙ sym (v u), settled_down g br 0 r (omega arith) sb, settled_down g u 0 s (omega arith) st)))
    (cases_lt 0 p.at)
