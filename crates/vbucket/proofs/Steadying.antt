-- what is kept stays steady
use Rattle.std.proofs.Common.{◌≡◌, ℕ, ◌<◌, ◌≤◌, Bool, true, false, cond, List, [], ◌∷◌, ◌++◌, map, refl, ap, sym, subst, ◌∙◌, arith}
use Rattle.std.specs.Prelude.{◌==◌, not, nat_le, nat_lt, ◌&&◌, ◌||◌, if◌then◌else◌, Option, Some, None}
use Rattle.std.specs.List.{filter, find, list_any}
use Rattle.std.specs.Str.{bytes_eq}
use Rattle.std.specs.FinMap as finite
use Rattle.std.specs.Cmp.{nat_cmp_total}
use Rattle.std.proofs.lemmas.Bool.Decides.{nat_tests}
use Rattle.vb_types.specs.declared.change.Change.{Change}
use Rattle.branch_model.specs.Histories.{last_seq}
use Rattle.vb_calls.specs.declared.span.Origin.{Origin}
use Rattle.vb_calls.specs.declared.span.Span.{Span}
use Rattle.vb_calls.specs.declared.stream.Stream.{Stream}
use Rattle.vb_calls.specs.Spans.{all_spans, is_whole}
use Rattle.vb_calls.specs.Streams.{given_cursor, is_in_memory, place_from, place_reply, placed_by, stream_at, without_stream, first_reason, id_refusal, is_ranged, is_seen, moved_on, need_of, open_refusal, snapshot_of}
use Rattle.checkpoint.specs.Checkpoints.{ckpt_span, ckpt_with, fits_in}
use Rattle.cursor_set.specs.Cursors.{Places, place_of, may_advance}
use Rattle.ckpt_list.specs.Lists.{Ckpts, between, ckpts_at, ends_of, held_of, high_of, is_own, may_stop, moved_cursor, opened, queued, queued_by, sealed_list, spans_of, stop_of}
use Rattle.vb_types.specs.declared.status.Status.TheVariants as status
use Rattle.vb_types.specs.declared.stream.Place.TheVariants.{Memory}
use Rattle.vb_types.specs.declared.stream.StreamAsk.{StreamAsk}
use Rattle.vb_calls.specs.declared.calls.VbAnswer.TheVariants as answer
use Rattle.vb_calls.specs.declared.calls.VbReply.{VbReply}
use Rattle.vb_calls.specs.State.{Plain, is_active, quiet_reply}
use Rattle.vb_calls.specs.Following.{is_follower}
use Rattle.vbucket.specs.Kept.{Kept, SameChanges, floored, kept_place, kept_take, kept_take_from, kept_take_to, restreamed, sent_items}
use Rattle.vbucket.specs.Laws.{AreFed}
use Rattle.vbucket.specs.Steady.{stream_place, with_cursor, CursorsAreStreams, IsSteady}
use Rattle.vb_types.specs.declared.role.Role.{Role}
use Rattle.vbucket.proofs.Parts.{most_of}
use Rattle.vbucket.proofs.Fed.{feeds_closed, feeds_given, feeds_moved, feeds_none, feeds_opened, follows_none}
use Rattle.vbucket.proofs.Feeding.{fed_given, fed_moved, fed_none, fed_opened, named, tie}

-- where a take may end

later : (a b : Bool) → b ≡ true → (a || b) ≡ true
later true b e = refl
later false b e = e

passes : (p : ℕ → Bool) (xs : List ℕ) (n : ℕ) → find p xs ≡ Some n → (p n ≡ true) × (list_any (λ m. m == n) xs ≡ true)
passes p [] n e = cc
passes p (x ∷ xs) n e = by (p x) refl e (passes p xs n)
  where
    same : x ≡ n → (x == n) ≡ true
    same k = grind (arith, nat_tests, k)

    by : (b : Bool) → p x ≡ b → cond b (Some x) (find p xs) ≡ Some n → (find p xs ≡ Some n → (p n ≡ true) × (list_any (λ m. m == n) xs ≡ true)) → (p n ≡ true) × ((x == n || list_any (λ m. m == n) xs) ≡ true)
    by true f e ih = let k : x ≡ n = cc in (subst (λ m. p m ≡ true) k f, ap (λ b. b || list_any (λ m. m == n) xs) (same k))
    by false f e ih = let r = ih e in (r.0, later (x == n) (list_any (λ m. m == n) xs) r.1)

pub may_go : (places : Places) (id : ℕ) (l : Ckpts) (place need : ℕ) (sync : Bool) (n : ℕ) → place_of places id ≡ Some place → stop_of l place need sync ≡ Some n → may_advance (place_of places id) n ≡ true
may_go places id l place need sync n there e =
    ap (λ o. may_advance o n) there
    ∙ below (nat_lt place n) (is_whole n (all_spans (spans_of l))) (nat_le need n) (list_any (λ c. nat_lt place c.seq && nat_le c.seq n && is_seen sync c.act) (held_of l)) refl (passes (may_stop l place need sync) (ends_of l) n e).0
  where
    below : (a b c d : Bool) → nat_lt place n ≡ a → (a && b && c && d) ≡ true → nat_le place n ≡ true
    below true b c d f e = grind (arith, nat_tests, f)
    below false b c d f e = cc

pub stop_above : (l : Ckpts) (place need : ℕ) (sync : Bool) (n : ℕ) → stop_of l place need sync ≡ Some n → place < n
stop_above l place need sync n e =
    first (nat_lt place n) (is_whole n (all_spans (spans_of l))) (nat_le need n) (list_any (λ c. nat_lt place c.seq && nat_le c.seq n && is_seen sync c.act) (held_of l)) refl (passes (may_stop l place need sync) (ends_of l) n e).0
  where
    first : (a b c d : Bool) → nat_lt place n ≡ a → (a && b && c && d) ≡ true → place < n
    first true b c d f e = grind (arith, nat_tests, f)
    first false b c d f e = cc

-- the last seqno after one more change

last_pushed : (n : ℕ) (items : List Change) (c : Change) → last_seq n (items ++ c ∷ []) ≡ c.seq
last_pushed n [] c = refl
last_pushed n (x ∷ xs) c = last_pushed x.seq xs c

pub queued_high : (l : Ckpts) (origin : Origin) (c : Change) → high_of (queued l origin c) ≡ c.seq
queued_high l origin c = by (ckpt_span l.newest)
  where
    by : (w : Option Span) → high_of (queued_by w l origin c) ≡ c.seq
    by None = refl
    by (Some w) = fits (fits_in (is_own origin) l.newest.items c)
      where
        fits : (b : Bool) → high_of (if b then record l { newest = ckpt_with l.newest c } else opened (sealed_list l) origin c) ≡ c.seq
        fits true = last_pushed l.newest.above (filter (λ d. not (bytes_eq d.key c.key)) l.newest.items) c
        fits false = refl

-- a change moves no cursor, nor the floor
abbrev Marked : Ckpts → Ckpts → Type 0
Marked m l = (m.places ≡ l.places) × (m.floor ≡ l.floor)

queued_marked : (l : Ckpts) (origin : Origin) (c : Change) → Marked (queued l origin c) l
queued_marked l origin c = by (ckpt_span l.newest)
  where
    by : (w : Option Span) → Marked (queued_by w l origin c) l
    by None = (refl, refl)
    by (Some w) = fits (fits_in (is_own origin) l.newest.items c)
      where
        fits : (b : Bool) → Marked (if b then record l { newest = ckpt_with l.newest c } else opened (sealed_list l) origin c) l
        fits true = (refl, refl)
        fits false = (refl, refl)

pub queued_zero : (l : Ckpts) (origin : Origin) (c : Change) → place_of (queued l origin c).places 0 ≡ place_of l.places 0
queued_zero l origin c = ap (λ p. place_of p 0) (queued_marked l origin c).0

pub queued_floor : (l : Ckpts) (origin : Origin) (c : Change) → (queued l origin c).floor ≡ l.floor
queued_floor l origin c = (queued_marked l origin c).1

pub queued_steady : (role : Role) (at : ℕ) (l : Ckpts) (streams : List Stream) (origin : Origin) (c : Change) (m : Ckpts) (n : ℕ) → IsSteady role at l streams → m ≡ queued l origin c → n ≡ c.seq → IsSteady role n m streams
queued_steady role at l streams origin c m n is e seq = record {
  high = ap high_of e ∙ queued_high l origin c ∙ sym seq;
  fed = subst (λ p. CursorsAreStreams p streams) (sym (ap (λ (x : Ckpts). x.places) e ∙ (queued_marked l origin c).0)) is.fed;
  feeds = subst (λ f. AreFed role f streams) (sym (ap (λ (x : Ckpts). x.floor) e ∙ (queued_marked l origin c).1)) is.feeds;
}

-- nothing above a seqno
alone_steady : (role : Role) (m : Ckpts) (at n : ℕ) (origin : Origin) → m ≡ ckpts_at at origin → n ≡ at → IsSteady role n m []
alone_steady role m at n origin e z = subst (λ (x : Ckpts). IsSteady role n x []) (sym e) (record { high = sym z; fed = fed_none at; feeds = feeds_none role at })

pub rolled_steady : (role : Role) (at : ℕ) (l : Ckpts) (streams : List Stream) (m : Ckpts) (to n : ℕ) (origin : Origin) → IsSteady role at l streams → is_follower role ≡ true → m ≡ ckpts_at to origin → n ≡ to → IsSteady role n m streams
rolled_steady role at l streams m to n origin is follows e z =
    let none : streams ≡ [] = follows_none role l.floor streams follows is.feeds in
    subst (λ ss. IsSteady role n m ss) (sym none) (alone_steady role m to n origin e z)

pub made_steady : (role : Role) (l : Ckpts) (streams : List Stream) (at n : ℕ) (origin : Origin) → l ≡ ckpts_at at origin → streams ≡ [] → n ≡ at → IsSteady role n l streams
made_steady role l streams at n origin e none z = subst (λ ss. IsSteady role n l ss) (sym none) (alone_steady role l at n origin e z)

pub may_open : (vb : Plain) (id : ℕ) (ask : StreamAsk) → open_refusal vb id ask ≡ None → (is_active vb.role ≡ true) × (stream_at id vb.streams ≡ None)
may_open vb id ask e = by (is_active vb.role) (stream_at id vb.streams) e
  where
    by : (b : Bool) (o : Option Stream) → (if b then first_reason (id_refusal id o) (if is_ranged ask then None else Some status.Erange) else Some status.NotMyVbucket) ≡ None → (b ≡ true) × (o ≡ None)
    by true None e = (refl, refl)
    by true (Some s) e = cc
    by false o e = cc

pub opened_steady : (role : Role) (at : ℕ) (l : Ckpts) (streams : List Stream) (s : Stream) (m : Ckpts) (ss : List Stream) → IsSteady role at l streams → is_active role ≡ true → 0 < s.id → stream_at s.id streams ≡ None → s.cursor ≡ nat_le l.floor s.place
    → m ≡ record l { places = with_cursor l.places s } → ss ≡ streams ++ s ∷ [] → IsSteady role at m ss
opened_steady role at l streams s m ss is active some none has e f =
    subst (λ xs. IsSteady role at m xs) (sym f) (subst (λ (x : Ckpts). IsSteady role at x (streams ++ s ∷ [])) (sym e) (record {
      high = is.high;
      fed = fed_opened l.places streams s is.fed (omega (arith, some)) none;
      feeds = feeds_opened role l.floor streams s active is.feeds none (λ c. most_of l.floor s.place (sym has ∙ c));
    }))

pub closed_steady : (role : Role) (at : ℕ) (l : Ckpts) (streams : List Stream) (m : Ckpts) (ss : List Stream) (id : ℕ) → IsSteady role at l streams → SameChanges l m → CursorsAreStreams m.places ss → ss ≡ without_stream id streams → IsSteady role at m ss
closed_steady role at l streams m ss id is e fed f = record {
  high = ap high_of e.rest ∙ is.high;
  fed = fed;
  feeds = subst (AreFed role m.floor) (sym f) (subst (λ n. AreFed role n (without_stream id streams)) (sym (ap (λ (x : Ckpts). x.floor) e.rest)) (feeds_closed role l.floor id streams is.feeds));
}

pub moved_steady : (role : Role) (at : ℕ) (l : Ckpts) (streams : List Stream) (id end : ℕ) (s : Stream) (m : Ckpts) (ss : List Stream) → IsSteady role at l streams → stream_at id streams ≡ Some s → s.cursor ≡ true → s.place < end → m ≡ moved_cursor l id end → ss ≡ map (moved_on id end) streams → IsSteady role at m ss
moved_steady role at l streams id end s m ss is there has above e f =
    let reach : l.floor ≤ s.place = is.feeds.cursors id s there has in
    subst (λ xs. IsSteady role at m xs) (sym f) (subst (λ (x : Ckpts). IsSteady role at x (map (moved_on id end) streams)) (sym e) (record {
      high = is.high;
      fed = fed_moved l.places streams id end s is.fed there has;
      feeds = feeds_moved role l.floor id end streams s is.feeds there (omega arith);
    }))

-- a stream has a cursor from now on
pub given_steady : (role : Role) (at : ℕ) (l : Ckpts) (streams : List Stream) (id : ℕ) (s : Stream) (m : Ckpts) (ss : List Stream) → IsSteady role at l streams → stream_at id streams ≡ Some s → nat_le l.floor s.place ≡ true → m ≡ moved_cursor l id s.place → ss ≡ map (given_cursor id) streams → IsSteady role at m ss
given_steady role at l streams id s m ss is there memory e f =
    subst (λ xs. IsSteady role at m xs) (sym f) (subst (λ (x : Ckpts). IsSteady role at x (map (given_cursor id) streams)) (sym e) (record {
      high = is.high;
      fed = fed_given l.places streams id s is.fed there;
      feeds = feeds_given role l.floor id streams s is.feeds there (most_of l.floor s.place memory);
    }))

-- the cursor 0 moves on
pub flushed_steady : (role : Role) (at : ℕ) (l : Ckpts) (streams : List Stream) (m : Ckpts) (n : ℕ) → IsSteady role at l streams → m ≡ moved_cursor l 0 n → IsSteady role at m streams
flushed_steady role at l streams m n is e = subst (λ (x : Ckpts). IsSteady role at x streams) (sym e) (record {
  high = is.high;
  fed = record { cursors = λ q. is.fed.cursors q ∙ sym (same q); apart = is.fed.apart };
  feeds = is.feeds;
})
  where
    same : (q : ℕ) → stream_place (finite.insert l.places 0 n) q ≡ stream_place l.places q
    same q = ap (λ o. if q == 0 then None else o) (finite.get-insert nat_cmp_total l.places 0 n q ∙ ap (λ b. cond b (Some n) (place_of l.places q)) (tie q 0)) ∙ by (q == 0)
      where
        by : (b : Bool) → (if b then None else cond b (Some n) (place_of l.places q)) ≡ (if b then None else place_of l.places q)
        by true = refl
        by false = refl

pub took : (k : Kept) (id end : ℕ) (s : Stream) (l : Ckpts) (ss : List Stream) (reply : VbReply) → stream_at id k.rest.streams ≡ Some s → s.cursor ≡ true → stop_of k.list s.place (need_of s) s.sync ≡ Some end
    → l ≡ moved_cursor k.list id end → ss ≡ map (moved_on id end) k.rest.streams → reply ≡ quiet_reply (answer.Taken (snapshot_of s (sent_items s (between s.place end (held_of k.list)))))
    → ◌≡◌ {A = Kept × VbReply} (record { rest = record k.rest { streams = ss }; list = l }, reply) (kept_take k id)
took k id end s l ss reply there has stop e f g =
    (λ i. (record { rest = record k.rest { streams = f i }; list = e i }, g i))
    ∙ ap (λ n. (record { rest = record k.rest { streams = map (moved_on n end) k.rest.streams }; list = moved_cursor k.list n end }, quiet_reply (answer.Taken (snapshot_of s (sent_items s (between s.place end (held_of k.list))))))) (sym (named id k.rest.streams s there))
    ∙ sym (ap (λ o. kept_take_from o k) there ∙ ap (λ b. kept_take_to (if b then stop_of k.list s.place (need_of s) s.sync else None) s k) has ∙ ap (λ o. kept_take_to o s k) stop)

pub placed : (k : Kept) (id : ℕ) (s : Stream) (ss : List Stream) (reply : VbReply) → stream_at id k.rest.streams ≡ Some s → s.cursor ≡ false → is_in_memory (floored k) s.place ≡ true → ss ≡ map (given_cursor id) k.rest.streams → reply ≡ place_reply Memory
    → ◌≡◌ {A = Plain × VbReply} (record k.rest { streams = ss }, reply) (kept_place k id)
placed k id s ss reply there has memory f g =
    (λ i. (record k.rest { streams = f i }, g i))
    ∙ ap (λ n. (record k.rest { streams = map (given_cursor n) k.rest.streams }, place_reply Memory)) (sym (named id k.rest.streams s there))
    ∙ sym (ap (λ o. restreamed (place_from o) k) there ∙ ap (λ b. restreamed (placed_by b (is_in_memory (floored k) s.place) s) k) has ∙ ap (λ b. restreamed (placed_by false b s) k) memory)
