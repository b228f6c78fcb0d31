-- what a stream without durable writes shows of a history
use Rattle.std.specs.Prelude.{◌≡◌, ◌≤◌, ◌∷◌}
use Rattle.transcript_law.proofs.Words.{ℕ, true, false, List, [], refl, ap, sym, ◌∙◌, arith, inl, inr, ⊎_elim, Some, and_parts, map, filter, Change, IsIn, Rises, upto, in_filter}
use Rattle.branch_model.proofs.{Lasts.{kept_in_filter, rises_filter}, Lists.{from_upto, last_above, last_in, rises_map, rises_upto, same_seq, upto_in}}
use Rattle.branch_model.specs.Snapshots.{plain_view}
use Rattle.std.proofs.lemmas.Bool.{and_from}
use Rattle.std.proofs.lemmas.Slice.Eq.{bytes_eq-Decides}
use Rattle.std.specs.Str.{bytes_eq}
use Rattle.vb_types.specs.Histories.{Slot, is_visible, last_of, plain, plain_act, touches}
use Rattle.vb_types.specs.declared.change.Act.{Act}
use Rattle.vb_types.specs.declared.change.Act.TheVariants as act

pub mapped_in : (f : Change → Change) (xs : List Change) (c : Change) → IsIn c xs → IsIn (f c) (map f xs)
mapped_in f [] c i = absurd i
mapped_in f (x ∷ xs) c i = ⊎_elim (λ e. inl (ap f e)) (λ j. inr (mapped_in f xs c j)) i

pub in_map : (f : Change → Change) (xs : List Change) (y : Change) → IsIn y (map f xs) → (c : Change) × IsIn c xs × (y ≡ f c)
in_map f [] y i = absurd i
in_map f (x ∷ xs) y i = ⊎_elim (λ e. (x, inl refl, e)) (λ j. let k = in_map f xs y j in (k.0, inr k.1, k.2)) i

-- a set or a removal touches each slot of its key
touches_visible : (s : Slot) (c d : Change) → touches s c ≡ true → c.key ≡ d.key → is_visible d.act ≡ true → touches s d ≡ true
touches_visible (Slot.Committed q) c d t e v = and_from (bytes_eq d.key q) (is_visible d.act) (ap (λ k. bytes_eq k q) (sym e) ∙ (and_parts (bytes_eq c.key q) (is_visible c.act) t).0) v
touches_visible (Slot.Pending q) c d t e v = ap (λ k. bytes_eq k q) (sym e) ∙ t

plain_visible : (a : Act) → is_visible a ≡ true → is_visible (plain_act a) ≡ true
plain_visible (act.Set doc) e = refl
plain_visible (act.Remove cas rev) e = refl
plain_visible (act.Prepare level doc deleted) e = cc
plain_visible (act.Commit prepared doc true) e = refl
plain_visible (act.Commit prepared doc false) e = refl
plain_visible (act.Abort prepared) e = cc

pub plain_rises : (a b : ℕ) (h : List Change) → Rises a b h → Rises a b (plain_view h)
plain_rises a b h r = rises_map plain (λ x. refl) a b (filter (λ x. is_visible x.act) h) (rises_filter (λ x. is_visible x.act) a b h r)

pub plain_in : (h : List Change) (c : Change) → IsIn c h → is_visible c.act ≡ true → IsIn (plain c) (plain_view h)
plain_in h c i v = mapped_in plain (filter (λ x. is_visible x.act) h) c (kept_in_filter (λ x. is_visible x.act) c h i v)

pub plain_of_view : (h : List Change) (x : Change) → IsIn x (plain_view h) → (c : Change) × IsIn c h × (is_visible c.act ≡ true) × (x ≡ plain c)
plain_of_view h x i =
    let k = in_map plain (filter (λ y. is_visible y.act) h) x i in
    let m = in_filter (λ y. is_visible y.act) k.0 h k.1 in
    (k.0, m.0, m.1, k.2)

-- a slot's last change that such a stream shows is its key's last visible one
pub plain_last : (top n : ℕ) (h : List Change) (s : Slot) (x c : Change) → Rises 0 top h → last_of s (upto (plain_view h) n) ≡ Some x → IsIn c h → is_visible c.act ≡ true → x ≡ plain c → last_of (Slot.Committed c.key) (upto h n) ≡ Some c
plain_last top n h s x c r e i v q =
    let ix = last_in (touches s) (upto (plain_view h) n) x e in
    let es : x.seq ≡ c.seq = ap (λ (y : Change). y.seq) q in
    let lx : x.seq ≤ n = (from_upto x (plain_view h) n ix.0).1 in
    let t : Slot = Slot.Committed c.key in
    let z = last_above (touches t) 0 n (upto h n) c (rises_upto 0 top n h (omega arith) r) (upto_in c h n i (omega arith)) (and_from (bytes_eq c.key c.key) (is_visible c.act) ((bytes_eq-Decides c.key c.key).1 refl) v) in
    let iz = last_in (touches t) (upto h n) z.0 z.1 in
    let tz = and_parts (bytes_eq z.0.key c.key) (is_visible z.0.act) iz.1 in
    let kz : z.0.key ≡ c.key = (bytes_eq-Decides z.0.key c.key).0 tz.0 in
    let uz = from_upto z.0 h n iz.0 in
    let lz : c.seq ≤ z.0.seq = z.2 in
    let nz : z.0.seq ≤ n = uz.1 in
    let kx : x.key ≡ (plain z.0).key = ap (λ (y : Change). y.key) q ∙ sym kz in
    let y = last_above (touches s) 0 n (upto (plain_view h) n) (plain z.0) (rises_upto 0 top n (plain_view h) (omega arith) (plain_rises 0 top h r)) (upto_in (plain z.0) (plain_view h) n (plain_in h z.0 uz.0 tz.1) nz)
    (touches_visible s x (plain z.0) ix.1 kx (plain_visible z.0.act tz.1)) in
    let ey : x ≡ y.0 = (let p : Some x ≡ Some y.0 = sym e ∙ y.1 in cc) in
    let sy : x.seq ≡ y.0.seq = ap (λ (w : Change). w.seq) ey in
    let ly : z.0.seq ≤ y.0.seq = y.2 in
    z.1 ∙ ap Some (same_seq 0 top h z.0 c r uz.0 i (omega arith))
