-- the laws of trims, and of cursors that are taken away
use Rattle.std.proofs.Common.{◌≡◌, ◌≢◌, ℕ, ◌<◌, Bool, true, false, ltb, List, [], ◌∷◌, ◌++◌, refl, ap, ◌∙◌, inl, inr, ⊎_elim, arith}
use Rattle.std.specs.Prelude.{◌⊎◌, ◌==◌, option_to_list, Option, Some, None}
use Rattle.std.specs.FinMap as finite
use Rattle.std.proofs.lemmas.Bool.{cases_lt, lt-ltb, ltb-true}
use Rattle.std.proofs.lemmas.Bool.Decides.{nat_tests}
use Rattle.vb_types.specs.Images.{Picture}
use Rattle.vb_calls.specs.declared.calls.VbAnswer.TheVariants as answer
use Rattle.vb_calls.specs.declared.calls.VbReply.{VbReply}
use Rattle.vb_calls.specs.declared.span.Span.{Span}
use Rattle.vb_calls.specs.declared.stream.Stream.{Stream}
use Rattle.vb_calls.specs.State.{Plain, image_in, quiet_reply}
use Rattle.vb_calls.specs.Streams.{stream_at}
use Rattle.vb_calls.specs.Trims.{end_of, ended_by, has_cursor, needless_to, trim_floor, trimmed_vb}
use Rattle.ckpt_list.proofs.Climbs.{Climbs}
use Rattle.ckpt_list.proofs.Trimming.{end_last, parted}
use Rattle.vbucket.specs.Laws.{Follow}
use Rattle.vbucket.specs.Memory.{DropsExactly, IsWanted, TrimsExactly}
use Rattle.vbucket.proofs.Feeding.{other_changed, own_changed, uncursored}
use Rattle.vbucket.proofs.Parts.{in_filter, kept_in_filter}
use Rattle.vbucket.proofs.Trimmed.{needless_fed, needless_from, needless_low, trimmed_image}

climbs : (low high : ℕ) (ws more : List Span) → Follow low (ws ++ more) high → Climbs (λ (w : Span). w.last) low ws
climbs low high [] more f = tt
climbs low high (w ∷ ws) more f = (f.1, climbs w.last high ws more f.2)

pub trims_exactly : TrimsExactly
trims_exactly vb s =
    let n : ℕ = needless_to vb in
    let p = parted n vb.floor vb.spans.sealed (climbs vb.floor vb.position.at vb.spans.sealed (option_to_list vb.spans.current) s.spans) in
    let image : image_in (trimmed_vb vb) ≡ image_in vb = trimmed_image vb s.spanned in
    record {
      gone = ended_by n vb.spans.sealed;
      front = p.front;
      current = refl;
      told = refl;
      saved = p.low vb.saved (needless_low vb).0;
      taken = p.low vb.flushed (needless_low vb).1;
      given = λ t i has. p.low t.place (needless_fed vb t i has);
      first = λ w ws e. wanted vb w (p.first w ws e);
      still = λ none. ap (end_of vb.floor) none;
      floor = λ w ws e. ap (end_of vb.floor) e ∙ end_last vb.floor ws w;
      documents = λ key. (ap (λ (i : Picture). finite.get i.docs key) image, ap (λ (i : Picture). finite.get i.pending key) image);
      held = λ c. (
        (λ i. let k = in_filter (λ x. ltb (trim_floor vb) x.seq) vb.held c i in (k.0, ltb-true (trim_floor vb) c.seq k.1)),
        (λ h. kept_in_filter (λ x. ltb (trim_floor vb) x.seq) vb.held c h.0 (lt-ltb (trim_floor vb) c.seq h.1)),
      );
      stays = refl;
    }
  where
    wanted : (vb : Plain) (w : Span) → needless_to vb < w.last → IsWanted vb w
    wanted vb w l = ⊎_elim
        (λ e. ⊎_elim (λ k. inl (omega (arith, e, l, k))) (λ k. inr (inl (omega (arith, e, l, k)))) (cases_lt vb.saved vb.flushed))
        (λ r. inr (inr (r.0, r.1, r.2, omega (arith, l, r.3))))
        (needless_from vb)

pub drops_exactly : DropsExactly
drops_exactly vb id = record {
  had = (
    (λ e. has (stream_at id vb.streams) refl e),
    (λ h. ap (λ o. quiet_reply (answer.Flag (has_cursor o))) h.1 ∙ ap (λ b. quiet_reply (answer.Flag b)) h.2),
  );
  none = (
    (λ e. lacks (stream_at id vb.streams) refl e),
    (λ h. ⊎_elim
        (λ n. ap (λ o. quiet_reply (answer.Flag (has_cursor o))) n)
        (λ k. ap (λ o. quiet_reply (answer.Flag (has_cursor o))) k.1 ∙ ap (λ b. quiet_reply (answer.Flag b)) k.2)
        h),
  );
  here = λ s at. own_changed id uncursored (λ x. refl) s vb.streams at;
  others = λ other ne. other_changed id uncursored (λ x. refl) other vb.streams (apart (other == id) refl ne);
  stays = refl;
}
  where
    has : (o : Option Stream) → stream_at id vb.streams ≡ o → quiet_reply (answer.Flag (has_cursor o)) ≡ quiet_reply (answer.Flag true) → (s : Stream) × (stream_at id vb.streams ≡ Some s) × (s.cursor ≡ true)
    has None at e = let k : answer.Flag false ≡ answer.Flag true = ap (λ (r : VbReply). r.answer) e in absurd (cc)
    has (Some s) at e = let k : answer.Flag s.cursor ≡ answer.Flag true = ap (λ (r : VbReply). r.answer) e in (s, at, let m : s.cursor ≡ true = cc in m)

    lacks : (o : Option Stream) → stream_at id vb.streams ≡ o → quiet_reply (answer.Flag (has_cursor o)) ≡ quiet_reply (answer.Flag false)
        → (stream_at id vb.streams ≡ None) ⊎ ((s : Stream) × (stream_at id vb.streams ≡ Some s) × (s.cursor ≡ false))
    lacks None at e = inl at
    lacks (Some s) at e = let k : answer.Flag s.cursor ≡ answer.Flag false = ap (λ (r : VbReply). r.answer) e in inr (s, at, let m : s.cursor ≡ false = cc in m)

    apart : {other : ℕ} (b : Bool) → (other == id) ≡ b → other ≢ id → b ≡ false
    apart true t ne = absurd (ne (grind (arith, nat_tests, t)))
    apart false t ne = refl
