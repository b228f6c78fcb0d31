-- pulls of clients' streams that end for a journal, judged by hand
use Rattle.std.proofs.Common.{List, [], ap, arith, refl, subst, sym, true, false, ℕ, ◌∙◌, ◌∷◌, ◌≡◌, ◌<◌}
use Rattle.std.specs.Prelude.{Bool, Option, Some, None, ◌==◌, if◌then◌else◌}
unfoldable use Rattle.mcbp_frame.specs.Cutting.{frames_in}
unfoldable use Rattle.mcbp_frame.specs.Frames.{first_frame}
use Rattle.vb_events.specs.declared.event.Answer.TheVariants as answer
use Rattle.vb_events.specs.declared.event.Why.TheVariants as why
use Rattle.vb_types.specs.declared.change.Change.{Change}
use Rattle.transcript_law.specs.ClientAskRows.{LawfulUnread, journal_so, moved, none, pulls, serving, with_window}
use Rattle.transcript_law.specs.ClientStreamRows.{all_changes, both as and_another, finished, first_item, fresh, inside, next_item, one, put_three, put_two, snapshot, three, two, up_to, with_streams}
use Rattle.transcript_law.specs.ClientStreams.{ClientStream, ItemLine}
use Rattle.transcript_law.specs.LawfulClients.{HasReached}
use Rattle.transcript_law.specs.{LinesTold.{at_line}, Unread.{ClientUnread}}
use Rattle.transcript_law.specs.StreamLaws.{EndsThere, IsPutWhole}
use Rattle.transcript_law.proofs.rows.ClientStreams.{none_counted}
use Rattle.transcript_law.proofs.rows.Silent.{here_answered, none_of, unbroken_of}
use Rattle.transcript_law.proofs.verbs.Handing.{hands_plain}

-- a pull that ends so is lawful where one stream can't go on
unread_by : (changes : List Change) (streams : ℕ → Option ClientStream) → ClientUnread (at_line (journal_so true 2 (serving changes (with_streams streams))) 1) 0 (with_streams streams) → LawfulUnread true 2 changes (with_streams streams)
unread_by changes streams unread = (
  (
    tt,
    (refl, record { told = refl; most = omega arith; all = λ e. cc; only = λ e. absurd (omega (arith, e)) }),
    refl,
    refl,
    (λ w no standing. cc),
    hands_plain _ _ _ _ refl refl,
    refl,
    (unread, none_counted (with_streams streams) refl refl),
    here_answered (journal_so true 2 (serving changes (with_streams streams))) pulls [] (answer.Pulled 0 why.Disk) (λ n c e. rw e refl) (none_of (with_streams streams).asking refl) (unbroken_of (with_streams streams).asking refl),
    tt,
    tt,
    (tt, tt),
  ),
  tt,
)

pub unread : LawfulUnread true 2 two (with_streams (one (fresh true all_changes)))
unfolding frames_in first_frame
unread = unread_by two (one (fresh true all_changes)) (record { vb = 0; stream = fresh true all_changes; known_as = refl; opens = refl; unclosed = refl; whole = tt; stays = refl; goes_on = λ r. r; active = refl; unreadable = record { closed = refl; saved = omega arith } })

pub other_left : LawfulUnread true 2 two (with_streams (and_another (fresh true all_changes) (inside true all_changes two 0 2 (first_item ∷ []))))
unfolding frames_in first_frame
other_left = unread_by two (and_another (fresh true all_changes) (inside true all_changes two 0 2 (first_item ∷ [])))
    (record { vb = 0; stream = fresh true all_changes; known_as = refl; opens = refl; unclosed = refl; whole = tt; stays = refl; goes_on = λ r. r; active = refl; unreadable = record { closed = refl; saved = omega arith } })

-- ---- pulls that may not end so

pub opened : LawfulUnread false 2 two (with_streams (one (fresh true all_changes))) → ⊥
opened l = let e : false ≡ true = l.0.7.0.unreadable.closed in cc

pub unsaved : LawfulUnread true 0 two (with_streams (one (fresh true all_changes))) → ⊥
unsaved l = let low : l.0.7.0.stream.place < 0 = l.0.7.0.unreadable.saved in omega (arith, low)

-- the stream is the one that there is
its_stream : (seq : ℕ) (changes : List Change) (g : ClientStream) (l : LawfulUnread true seq changes (with_streams (one g))) → l.0.7.0.stream ≡ g
its_stream seq changes g l = at (l.0.7.0.vb == 0) refl l.0.7.0.known_as
  where
    at : (b : Bool) → (l.0.7.0.vb == 0) ≡ b → (if l.0.7.0.vb == 0 then Some g else None) ≡ Some l.0.7.0.stream → l.0.7.0.stream ≡ g
    at true e is = let there : (if true then Some g else None) ≡ Some l.0.7.0.stream = ap (λ (c : Bool). if c then Some g else None) (sym e) ∙ is in cc
    at false e is = let z : None ≡ Some l.0.7.0.stream = ap (λ (c : Bool). if c then Some g else None) (sym e) ∙ is in cc

abbrev whole_put : ClientStream
whole_put = inside true all_changes two 0 2 (first_item ∷ next_item ∷ [])

pub all_put : LawfulUnread true 2 two (with_streams (one whole_put)) → ⊥
all_put l = let low : 2 < 2 = subst (λ (g : ClientStream). g.place < 2) (its_stream 2 two whole_put l) l.0.7.0.unreadable.saved in omega (arith, low)

-- the first item of two is not the last one
not_there : (shown : List Change) → EndsThere (snapshot shown 0 2 (first_item ∷ [])) → ⊥
not_there shown ([], item, is, ends) = let own : first_item ≡ item = cc in let e : ◌≡◌ {A = ℕ} 1 2 = ap (λ (i : ItemLine). i.seq) own ∙ ends in omega (arith, e)
not_there shown (x ∷ [], item, is, ends) = cc
not_there shown (x ∷ y ∷ more, item, is, ends) = cc

pub part : LawfulUnread true 3 three (with_streams (one (inside true all_changes three 0 2 (first_item ∷ [])))) → ⊥
part l = not_there three (subst (λ (g : ClientStream). IsPutWhole g.last) (its_stream 3 three (inside true all_changes three 0 2 (first_item ∷ [])) l) l.0.7.0.whole)

pub due : LawfulUnread true 3 three (with_streams (one (put_three (up_to 2)))) → ⊥
due l = subst (λ (g : ClientStream). HasReached g → ⊥) (its_stream 3 three (put_three (up_to 2)) l) l.0.7.0.goes_on (omega arith)

pub turns : LawfulUnread true 3 three (with_streams (one (moved put_two))) → ⊥
turns l = let e : true ≡ false = ap (λ (g : ClientStream). g.turned) (sym (its_stream 3 three (moved put_two) l)) ∙ l.0.7.0.stays in cc

pub over : LawfulUnread true 2 two (with_streams (one (finished (fresh true all_changes)))) → ⊥
over l = let e : true ≡ false = ap (λ (g : ClientStream). g.over) (sym (its_stream 2 two (finished (fresh true all_changes)) l)) ∙ l.0.7.0.opens in cc

pub none_there : LawfulUnread true 2 two (with_streams none) → ⊥
none_there l = let e : None ≡ Some l.0.7.0.stream = l.0.7.0.known_as in cc

pub shut : LawfulUnread true 2 two (with_window 100 100 [] (one (fresh true all_changes))) → ⊥
unfolding frames_in first_frame
shut l = let e : false ≡ true = l.0.7.1 in cc
