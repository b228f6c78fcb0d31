-- what a line `down` leaves to commit at the vBucket that its link is to take over
use Rattle.std.specs.Prelude.{◌≡◌}
use Rattle.transcript_law.proofs.Words.{ℕ, sym, subst, Some, Chronicle, PlainWorld, StaysSound, consumer_node, link_number, row_at}
use Rattle.transcript_law.proofs.invariant.{Agreement.{Agrees}, AtRest.{OwnsSettled, RestsIf}, CallsKept.{AllIn, InWorld}, LinkRows.{found_is_link}, Noted.{AllFree, AllNoted}}
use Rattle.transcript_law.proofs.verbs.DownLine.{down_rested}

-- no more than before, where it is active then
pub owns_settled : StaysSound → (w : PlainWorld) (r : Chronicle) (l wanted : ℕ) → Agrees w r → AllNoted w r → AllFree w r → InWorld RestsIf w → OwnsSettled w l wanted
owns_settled stays w r l wanted a noted free all link node vb found known takes is =
    let own = found_is_link l w.links link found in
    down_rested stays w r link node wanted (subst (λ k. row_at link_number k w.links ≡ Some link) (sym own.1) found) known a (noted link own.0) (free link own.0)
    (subst (AllIn RestsIf) known (all (consumer_node link))) link.consumer.dialed.vb vb is
