-- the frames that a producer puts on a link: only a stream's end is one, and its reason says whether a change of role ended the stream
use Rattle.std.specs.Prelude.{◌≡◌, ◌⊎◌, ◌∷◌, ◌++◌, ◌&&◌, ◌==◌}
use Rattle.std.specs.List.{All}
use Rattle.mcbp_frame.specs.Spelling.{spelling, Readable}
use Rattle.vb_types.specs.declared.change.Act.{Act}
use Rattle.vb_types.specs.declared.change.Act.TheVariants as act
use Rattle.mcbp_dcp.specs.DcpFrames.{stream_end_extras}
use Rattle.transcript_law.proofs.Words.{ℕ, Bool, true, false, not, List, [], refl, ap, sym, ◌∙◌, subst, inl, inr, ⊎_elim, append-nil, append_assoc, All-cons, All-head, All-nil, All-tail, Change, Chronicle, DcpMsg, Frame, PlainConsumer, PlainLink, RESPONSE, Role, act_message, dcp_frame, link_number}
use Rattle.transcript_law.proofs.{balance.Levels.{Has}, balance.Measures.{spelled}, invariant.Agreement.{end_reason}}

-- ---- by one frame

abbrev pub is_end : Frame → Bool
is_end f = not (f.magic == RESPONSE) && f.opcode == 0x55

end_is_end : (why o v : ℕ) → is_end (dcp_frame (DcpMsg.StreamEnd why) o v) ≡ true
unfolding dcp_frame
end_is_end why o v = refl

pub act_none : (o v : ℕ) (c : Change) (a : Act) → is_end (dcp_frame (act_message c a) o v) ≡ false
unfolding dcp_frame
act_none o v c (act.Set doc) = refl
act_none o v c (act.Remove cas rev) = refl
act_none o v c (act.Prepare level doc deleted) = refl
act_none o v c (act.Commit prepared doc deleted) = refl
act_none o v c (act.Abort prepared) = refl

pub marker_none : (o v start end flags : ℕ) → is_end (dcp_frame (DcpMsg.SnapshotMarker start end flags) o v) ≡ false
unfolding dcp_frame
marker_none o v start end flags = refl

pub state_none : (o v : ℕ) (role : Role) → is_end (dcp_frame (DcpMsg.SetVbucketState role) o v) ≡ false
unfolding dcp_frame
state_none o v role = refl

-- the reason is what the frame tells
abbrev pub end_as : Bool → ℕ → ℕ → Frame
end_as b o v = dcp_frame (DcpMsg.StreamEnd (end_reason b)) o v

one_reason : (b d : Bool) (o v p u : ℕ) → end_as b o v ≡ end_as d p u → b ≡ d
unfolding dcp_frame
one_reason true true o v p u e = refl
one_reason false false o v p u e = refl
one_reason true false o v p u e = let z : stream_end_extras 2 ≡ stream_end_extras 0 = ap (λ (f : Frame). f.extras) e in cc
one_reason false true o v p u e = let z : stream_end_extras 0 ≡ stream_end_extras 2 = ap (λ (f : Frame). f.extras) e in cc

-- ---- of a link

-- a frame that is put: if it ends the stream, it says whether the vBucket turned
abbrev pub EndsSo : Chronicle → PlainLink → Frame → Type 0
EndsSo r link f = (b : Bool) (o v : ℕ) → f ≡ end_as b o v → link.consumer.dialed.takeover ≡ true → (r.takeover_of (link_number link)).turned ≡ b

pub none_ends : (r : Chronicle) (link : PlainLink) (f : Frame) → is_end f ≡ false → EndsSo r link f
none_ends r link f none b o v e takes = let z : false ≡ true = sym none ∙ ap is_end e ∙ end_is_end (end_reason b) o v in cc

pub so_ends : (r : Chronicle) (link : PlainLink) (f : Frame) (d : Bool) (p u : ℕ) → f ≡ end_as d p u → (link.consumer.dialed.takeover ≡ true → (r.takeover_of (link_number link)).turned ≡ d) → EndsSo r link f
so_ends r link f d p u is turned b o v e takes = turned takes ∙ one_reason d b p u o v (sym is ∙ e)

-- frames that were put so
pub record PutsSo (r : Chronicle) (link : PlainLink) (out : List ℕ) : Type 0 where
  pub put : List Frame
  pub wrote : out ≡ spelled put
  pub readable : All Readable put
  pub ends : (b : Bool) (o v : ℕ) → Has (end_as b o v) put → link.consumer.dialed.takeover ≡ true → (r.takeover_of (link_number link)).turned ≡ b

pub puts_none : (r : Chronicle) (link : PlainLink) → PutsSo r link []
puts_none r link = record { put = []; wrote = refl; readable = All-nil Readable; ends = λ b o v h takes. absurd h }

has_last : (f g : Frame) (fs : List Frame) → Has f (fs ++ g ∷ []) → Has f fs ⊎ (g ≡ f)
has_last f g [] (inl e) = inr e
has_last f g [] (inr h) = absurd h
has_last f g (x ∷ xs) (inl e) = inl (inl e)
has_last f g (x ∷ xs) (inr h) = ⊎_elim (λ k. inl (inr k)) (λ e. inr e) (has_last f g xs h)

spelled_last : (fs : List Frame) (f : Frame) → spelled (fs ++ f ∷ []) ≡ spelled fs ++ spelling f
spelled_last [] f = append-nil (spelling f)
spelled_last (x ∷ xs) f = ap (λ bs. spelling x ++ bs) (spelled_last xs f) ∙ sym (append_assoc (spelling x) (spelled xs) (spelling f))

readable_last : (fs : List Frame) (f : Frame) → All Readable fs → Readable f → All Readable (fs ++ f ∷ [])
readable_last [] f all good = All-cons Readable f [] good (All-nil Readable)
readable_last (x ∷ xs) f all good = All-cons Readable x (xs ++ f ∷ []) (All-head Readable x xs all) (readable_last xs f (All-tail Readable x xs all) good)

pub puts_more : (r : Chronicle) (link : PlainLink) (out : List ℕ) (f : Frame) → Readable f → EndsSo r link f → PutsSo r link out → PutsSo r link (out ++ spelling f)
puts_more r link out f good ends p = record {
  put = p.put ++ f ∷ [];
  wrote = ap (λ bs. bs ++ spelling f) p.wrote ∙ sym (spelled_last p.put f);
  readable = readable_last p.put f p.readable good;
  ends = λ b o v h takes. ⊎_elim (λ k. p.ends b o v k takes) (λ e. ends b o v e takes) (has_last (end_as b o v) f p.put h);
}

-- of a link with the same consumer, where it is known as before whether vBuckets turned
pub ends_as : (r r' : Chronicle) (x y : PlainLink) (out : List ℕ) → x.consumer ≡ y.consumer → ((k : ℕ) → (r.takeover_of k).turned ≡ (r'.takeover_of k).turned) → PutsSo r x out → PutsSo r' y out
ends_as r r' x y out same turned p = record {
  put = p.put;
  wrote = p.wrote;
  readable = p.readable;
  ends = λ b o v h takes. sym (turned (link_number y)) ∙ subst (λ (c : PlainConsumer). (r.takeover_of c.dialed.link).turned ≡ b) same (p.ends b o v h (ap (λ (c : PlainConsumer). c.dialed.takeover) same ∙ takes));
}
