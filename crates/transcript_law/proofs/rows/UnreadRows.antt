-- pumps that end for a journal, judged by hand
use Rattle.std.specs.Prelude.{◌≡◌, ◌<◌, ◌∷◌}
use Rattle.transcript_law.proofs.Words.{ℕ, true, false, [], refl, ap, sym, ◌∙◌, subst, arith, Some, None, Answer, Begun, Chronicle, Dial, Granted, ItemLine, empty_chronicle}
use Rattle.transcript_law.proofs.links.Sources.{from_memory}
use Rattle.transcript_law.proofs.rows.Followers.{◌▹◌, begun, both_cover, changes, first_item, next_item, own_dial, own_stream, streamed}
use Rattle.transcript_law.proofs.verbs.Handing.{hands_plain}
use Rattle.transcript_law.specs.{Chronicles.{after_dial}, Contrary.{after_both_dead}, Followers.{after_both, next_change}, StreamLaws.{EndsThere, IsPutWhole}, Unread.{LinkUnread}}
use Rattle.transcript_law.specs.UndoneRows.{LawfulPump, both_unread, end_unread, granted_both, half_unread, journal_so, unread_now}
use Rattle.vb_events.specs.declared.event.StreamName.TheVariants as name

pub unread : LawfulPump (journal_so true 2 granted_both) unread_now
unread = (
  (
    tt,
    record { told = refl; most = omega arith; all = λ e. cc; only = λ e. absurd (omega (arith, e)) },
    refl,
    refl,
    λ w no standing. cc,
    hands_plain _ _ _ _ refl refl,
    tt,
    record { dial = own_dial; stream = own_stream; dialed = refl; granted = refl; opens = refl; whole = tt; unreadable = record { closed = refl; saved = omega arith } },
    λ n c opens. cc,
    tt,
    tt,
    (tt, tt),
  ),
  tt,
)

pub behind : LawfulPump (journal_so true 3 granted_both) both_unread
behind = (
  (
    (own_stream, (0, refl, refl), record { opens = refl; starts = refl; behind = tt; reaches = omega arith; whole = (changes, both_cover) }, from_memory _ _)
        ▹ (streamed (begun 0 2 []), begun 0 2 [], (0, refl, refl), refl, refl, (next_change ∷ [], record { whole = changes; covers = both_cover; front = refl }, λ e. absurd (omega arith)), λ e. cc)
        ▹ (streamed (begun 0 2 (first_item ∷ [])), begun 0 2 (first_item ∷ []), (0, refl, refl), refl, refl, ([], record { whole = changes; covers = both_cover; front = refl }, λ e. refl), λ e. cc) ▹ tt,
    record { told = refl; most = omega arith; all = λ e. cc; only = λ e. absurd (omega (arith, e)) },
    refl,
    refl,
    λ w no standing. cc,
    hands_plain _ _ _ _ refl refl,
    tt,
    record {
      dial = own_dial;
      stream = streamed (begun 0 2 (first_item ∷ next_item ∷ []));
      dialed = refl;
      granted = refl;
      opens = refl;
      whole = (first_item ∷ [], next_item, refl, refl);
      unreadable = record { closed = refl; saved = omega arith };
    },
    λ n c opens. cc,
    tt,
    tt,
    (tt, tt),
  ),
  tt,
)

pub opened : LawfulPump (journal_so false 2 granted_both) unread_now → ⊥
opened l = let e : false ≡ true = l.0.7.unreadable.closed in cc

pub unsaved : LawfulPump (journal_so true 0 granted_both) unread_now → ⊥
unsaved l = let low : l.0.7.stream.place < 0 = l.0.7.unreadable.saved in omega (arith, low)

-- the stream that can't go on is the link's
its_stream : (read : Chronicle) (g : Granted) → read.dial_of 1 ≡ Some own_dial → read.stream_of (name.Link 1) 0 ≡ Some g → (u : LinkUnread read 1) → u.stream ≡ g
its_stream read g is granted u =
    let both : Some own_dial ≡ Some u.dial = sym is ∙ u.dialed in
    let same : own_dial ≡ u.dial = cc in
    let there : Some u.stream ≡ Some g = sym (subst (λ (d : Dial). read.stream_of (name.Link 1) d.vb ≡ Some u.stream) (sym same) u.granted) ∙ granted in cc

pub put : LawfulPump (journal_so true 2 granted_both) both_unread → ⊥
put l =
    let same = its_stream _ (streamed (begun 0 2 (first_item ∷ next_item ∷ []))) refl refl l.0.7 in
    let low : 2 < 2 = subst (λ (g : Granted). g.place < 2) same l.0.7.unreadable.saved in omega (arith, low)

pub half_put : LawfulPump (journal_so true 3 granted_both) half_unread → ⊥
half_put l = not_there (subst (λ (g : Granted). IsPutWhole g.last) (its_stream _ (streamed (begun 0 2 (first_item ∷ []))) refl refl l.0.7) l.0.7.whole)
  where
    not_there : EndsThere (begun 0 2 (first_item ∷ [])) → ⊥
    not_there ([], item, is, ends) = let one : first_item ≡ item = cc in let e : ◌≡◌ {A = ℕ} 1 2 = ap (λ (i : ItemLine). i.seq) one ∙ ends in omega (arith, e)
    not_there (x ∷ [], item, is, ends) = cc
    not_there (x ∷ y ∷ more, item, is, ends) = cc

pub ended : LawfulPump (journal_so true 3 (after_both_dead after_both)) end_unread → ⊥
ended l = let e : true ≡ false = ap (λ (g : Granted). g.over) (sym (its_stream _ _ refl refl l.0.7)) ∙ l.0.7.opens in cc

pub no_stream : LawfulPump (journal_so true 2 (after_dial empty_chronicle 1 0 1 0 Answer.Ok)) unread_now → ⊥
no_stream l = let e : None ≡ Some l.0.7.stream = l.0.7.granted in cc
