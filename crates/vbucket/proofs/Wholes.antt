-- a batch is a snapshot, and a vBucket that is loaded is sound
use Rattle.std.proofs.Common.{◌≡◌, ℕ, ◌<◌, ◌≤◌, Bool, true, false, cond, List, [], ◌∷◌, refl, sym, ap, subst, ◌∙◌, inl, arith}
use Rattle.std.specs.Prelude.{Option, Some, None, nat_le, nat_lt, ◌&&◌}
use Rattle.std.specs.List.{filter, find}
use Rattle.std.proofs.lemmas.Bool.Decides.{nat_tests}
use Rattle.vb_types.specs.declared.change.Change.{Change}
use Rattle.vb_types.specs.declared.journal.Batch.{Batch}
use Rattle.vb_types.specs.declared.role.Role.{Role}
use Rattle.vb_types.specs.declared.role.Role.TheVariants as role
use Rattle.vb_types.specs.Histories.{upto, Rises, IsIn, Slot, touches, last_by, last_of}
use Rattle.branch_model.specs.Snapshots.{Covers}
use Rattle.branch_model.proofs.Lasts.{remains_cover}
use Rattle.vb_calls.specs.declared.calls.VbAnswer.TheVariants as answer
use Rattle.vb_calls.specs.declared.span.Origin.{Origin}
use Rattle.vb_calls.specs.declared.span.Origin.TheVariants.{Own, Received}
use Rattle.vb_calls.specs.declared.span.Span.{Span}
use Rattle.vb_calls.specs.Flushing.{batch_of, flush_from, unflushed_span}
use Rattle.vb_calls.specs.Plain.{Plain}
use Rattle.vb_calls.specs.Spans.{all_spans, stretch, live_in, span_position}
use Rattle.vb_calls.specs.State.{is_active, loaded_role}
use Rattle.vbucket.proofs.Backing.{backed_turned, linked_new}
use Rattle.vbucket.specs.Laws.{Sound, Follow, IsSpan}
use Rattle.vbucket.specs.Wholes.{BatchesAreWhole, LoadsSound}
use Rattle.vbucket.proofs.Covering.{slot_live}
use Rattle.vbucket.proofs.Fed.{feeds_none}
use Rattle.vbucket.proofs.Parts.{Among, below_of, between_of, bounded, kept_in_filter, filtered, found, from_zero, in_filter, in_live, last_filtered, live_rises, below_tested, split}
use Rattle.vbucket.proofs.Soundness.{idle_own}
use Rattle.vbucket.proofs.Spanned.{spanned_none}
use Rattle.vbucket.proofs.Taking.{among_all}

-- the first span that goes on above n begins at most there
first_begins : (low high n : ℕ) (ws : List Span) (w : Span) → Follow low ws high → low ≤ n → find (λ v. nat_lt n v.last) ws ≡ Some w → w.above ≤ n
first_begins low high n [] w f l e = cc
first_begins low high n (v ∷ vs) w f l e = by (nat_lt n v.last) refl e (λ m q. first_begins v.last high n vs w f.2 m q)
  where
    by : (b : Bool) → nat_lt n v.last ≡ b → cond b (Some v) (find (λ v. nat_lt n v.last) vs) ≡ Some w → (v.last ≤ n → find (λ v. nat_lt n v.last) vs ≡ Some w → w.above ≤ n) → w.above ≤ n
    by true t q rest = let s : v ≡ w = cc in let a : v.above ≡ low = f.0 in subst (λ (x : Span). x.above ≤ n) s (omega arith)
    by false t q rest = rest (grind (arith, nat_tests)) q

module _ (vb : Plain) (w : Span) (sound : Sound vb) (e : unflushed_span vb ≡ Some w) where
  abbrev h : List Change
  h = vb.held

  abbrev at : ℕ
  at = vb.position.at

  abbrev from : ℕ
  from = vb.flushed

  abbrev items : List Change
  items = filter (λ c. nat_lt from c.seq) (live_in w h)

  pub one : Among w (all_spans vb.spans)
  one = (found (λ v. nat_lt from v.last) (all_spans vb.spans) w e).0

  pub up : from < w.last
  up = below_of from w.last (found (λ v. nat_lt from v.last) (all_spans vb.spans) w e).1

  begins : w.above ≤ from
  begins = first_begins vb.floor at from (all_spans vb.spans) w sound.spans sound.flushed.0 e

  r0 : Rises 0 at h
  r0 = from_zero vb.floor at h sound.rises

  is_span : IsSpan h w
  is_span = among_all h (all_spans vb.spans) w sound.tidy one

  stretch_rises : Rises w.above w.last (stretch w.above w.last h)
  stretch_rises = let b = begins in let u = up in bounded vb.floor at w.above w.last (stretch w.above w.last h) (filtered (λ c. nat_lt w.above c.seq && nat_le c.seq w.last) vb.floor at h sound.rises) (omega arith)
      (λ x i. between_of w.above w.last x.seq (in_filter (λ c. nat_lt w.above c.seq && nat_le c.seq w.last) h x i).1)

  live_here : Rises w.above w.last (live_in w h)
  live_here = live_rises w.origin w.above w.last (stretch w.above w.last h) stretch_rises

  item_of : (x : Change) → IsIn x items → IsIn x h × (from < x.seq) × (x.seq ≤ w.last)
  item_of x i =
      let m = in_filter (λ c. nat_lt from c.seq) (live_in w h) x i in
      let n = in_filter (λ d. nat_lt w.above d.seq && nat_le d.seq w.last) h x (in_live w.origin (stretch w.above w.last h) x m.0) in
      (n.0, below_of from x.seq m.1, (between_of w.above w.last x.seq n.1).1)

  item_there : (slot : Slot) (c : Change) → last_of slot (upto h w.last) ≡ Some c → from < c.seq → IsIn c items
  item_there slot c q l =
      let b = begins in
      let here = ap (last_by (touches slot)) (split (λ d. nat_lt w.above d.seq) (λ d. nat_le d.seq w.last) h)
      ∙ last_filtered (touches slot) (λ d. nat_lt w.above d.seq) (upto h w.last) c q (below_tested w.above c.seq (omega arith)) in
      kept_in_filter (λ c. nat_lt from c.seq) (live_in w h) c (slot_live w.above w.last w.origin slot c (stretch w.above w.last h) stretch_rises is_span.tidy here) (below_tested from c.seq l)

  pub covered : Covers items h from w.last
  covered = remains_cover at h items from w.last is_span.ends.0 r0 up is_span.ends.1 is_span.ends.2 (record {
    rises = let u = up in bounded w.above w.last from w.last items (filtered (λ c. nat_lt from c.seq) w.above w.last (live_in w h) live_here) (omega arith) (λ x i. let k = item_of x i in (k.1, k.2));
    of = λ x i. (x, (item_of x i).0, inl refl);
    has = λ slot c q l m. (c, item_there slot c q l, inl refl);
  })

-- where a span's position is
at_end : (o : Origin) (n : ℕ) → (span_position o n).at ≡ n
at_end Own n = refl
at_end (Received ss se) n = refl

pub wholes : BatchesAreWhole
wholes vb batch sound = by (unflushed_span vb) refl
  where
    by : (o : Option Span) → unflushed_span vb ≡ o → (flush_from o vb).1.answer ≡ answer.Rows batch → Covers batch.items vb.held vb.flushed batch.position.at
    by None e q = cc
    by (Some w) e q =
        let s : batch_of vb w ≡ batch = cc in
        subst (λ (b : Batch). Covers b.items vb.held vb.flushed b.position.at) s (subst (Covers (batch_of vb w).items vb.held vb.flushed) (sym (at_end w.origin w.last)) (covered vb w sound e))

pub loaded_idle : (old : Role) → is_active (loaded_role old) ≡ false
loaded_idle role.Active = refl
loaded_idle role.Replica = refl
loaded_idle role.Pending = refl
loaded_idle role.Dead = refl

pub loads_sound : LoadsSound
loads_sound node old log p cas image low high capped small pends seqs apart = record {
  spanned = spanned_none (loaded_role old) p.at;
  placed = record { capped = capped; within = (low, high); own = idle_own (loaded_role old) p log (loaded_idle old) };
  stamped = record { casses = tt; pends = pends; last_cas = small };
  based = record { low = seqs; apart = apart };
  saved = omega arith;
  counted = record { waits = backed_turned (loaded_role old) image p.at (loaded_idle old); links = linked_new (loaded_role old) };
  feeds = feeds_none (loaded_role old) p.at;
}
