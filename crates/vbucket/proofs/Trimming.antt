-- what is kept, after a trim and after a cursor is taken away
use Rattle.std.proofs.Common.{◌≡◌, ℕ, List, map, length, refl, ap, sym, subst, ◌∙◌}
use Rattle.std.specs.Prelude.{Some}
use Rattle.vb_types.specs.Images.{Picture}
use Rattle.vb_types.specs.declared.role.Role.{Role}
use Rattle.vb_calls.specs.declared.calls.VbAnswer.TheVariants as answer
use Rattle.vb_calls.specs.declared.calls.VbReply.{VbReply}
use Rattle.vb_calls.specs.declared.stream.Stream.{Stream}
use Rattle.vb_calls.specs.Spans.{Spans}
use Rattle.vb_calls.specs.State.{Plain, quiet_reply}
use Rattle.vb_calls.specs.Streams.{without_cursor}
use Rattle.vb_calls.specs.Trims.{drop_row, end_of, ended_by, needless_of, needless_to, trim_floor, trim_row, trimmed_vb}
use Rattle.checkpoint.specs.Checkpoints.{items_above}
use Rattle.cursor_set.specs.Cursors.{place_of}
use Rattle.cursor_set.proofs.Leasts.{least_exact}
use Rattle.ckpt_list.specs.Lists.{Ckpts, high_of}
use Rattle.ckpt_list.specs.Trims.{needless, trimmed, trimmed_to}
use Rattle.ckpt_list.proofs.Sheds.{past}
use Rattle.vbucket.specs.Kept.{Kept, SameChanges, kept_trim}
use Rattle.vbucket.specs.Laws.{AreFed}
use Rattle.vbucket.specs.Stands.{IsKept, folded}
use Rattle.vbucket.specs.Steady.{CursorsAreStreams, IsSteady}
use Rattle.vbucket.proofs.Fed.{feeds_dropped}
use Rattle.vbucket.proofs.Feeding.{fed_at}
use Rattle.vbucket.proofs.Standing.{Stands, same_stands}
use Rattle.vbucket.proofs.Trimmed.{end_below, trimmed_image, trimmed_items, trimmed_open, trimmed_spanned}

-- a trim

trim_kept : (k : Kept) (s : Plain) (n : ℕ) → IsKept k s → n ≡ needless_to s → IsKept (record k { list = trimmed_to k.list n }) (trimmed_vb s)
trim_kept k s n is e = subst (λ m. IsKept (record k { list = trimmed_to k.list m }) (trimmed_vb s)) (sym e) (record {
  spanned = trimmed_spanned s is.spanned;
  rest = is.rest ∙ ap (λ (b : Picture). record (folded s) { base = b }) (sym (trimmed_image s is.spanned));
  list = record {
    spans = ap (λ (v : Spans). record { sealed = past (λ w. w.last) m v.sealed; current = v.current }) is.list.spans;
    items = (λ i. items_above (floor i) (is.list.items i)) ∙ trimmed_items s is.spanned;
    newest = is.list.newest ∙ sym (trimmed_open s is.spanned s.spans.current refl);
    high = is.list.high;
  };
  floor = floor;
  zero = is.zero;
})
  where
    m : ℕ
    m = needless_to s

    floor : end_of k.list.floor (ended_by m k.list.sealed) ≡ trim_floor s
    floor = λ i. end_of (is.floor i) (ended_by m ((is.list.spans i).sealed))

pub trim_stands : (k : Kept) (s : Plain) → IsKept k s → (k' : Kept) (reply : VbReply) → (k', reply) ≡ kept_trim k
    → ((flushed : ℕ) → place_of k.list.places 0 ≡ Some flushed → needless k.list k.rest.saved ≡ needless_of k.rest.saved flushed k.rest.streams) → Stands k' reply (trim_row s)
trim_stands k s is k' reply e least =
    let n : ℕ = needless k.list k.rest.saved in
    let same : n ≡ needless_to s = least s.flushed is.zero ∙ ap (λ (r : Plain). needless_of r.saved s.flushed r.streams) is.rest in (
      subst (λ (x : Kept). IsKept x (trimmed_vb s)) (sym (ap (λ p. p.0) e)) (trim_kept k s n is same),
      ap (λ p. p.1) e ∙ (λ i. quiet_reply (answer.Num (length (ended_by (same i) ((is.list.spans i).sealed))))),
    )

-- every stream that has a cursor stands at the floor or above, also then
pub trimmed_steady : (role : Role) (at : ℕ) (l m : Ckpts) (streams : List Stream) (saved : ℕ) → IsSteady role at l streams → m ≡ (trimmed l saved).0 → IsSteady role at m streams
trimmed_steady role at l m streams saved is e =
    let least = (least_exact l.places saved (needless l saved)).0 refl in
    subst (λ (x : Ckpts). IsSteady role at x streams) (sym e) (record {
      high = is.high;
      fed = is.fed;
      feeds = record {
        few = is.feeds.few;
        cursors = λ id t there has. end_below l.floor (needless l saved) t.place l.sealed (is.feeds.cursors id t there has) (least.2 id t.place (fed_at l.places streams id t is.fed there has));
      };
    })

-- a cursor that is taken away

pub drop_stands : (k : Kept) (s : Plain) → IsKept k s → (k' : Kept) (reply : VbReply) (id : ℕ) → (k'.rest, reply) ≡ drop_row k.rest id → SameChanges k.list k'.list → Stands k' reply (drop_row s id)
drop_stands k s is k' reply id e l = same_stands (λ vb. drop_row vb id) k k' s reply is refl refl e l

pub dropped_steady : (role : Role) (at : ℕ) (l : Ckpts) (streams : List Stream) (m : Ckpts) (ss : List Stream) (id : ℕ) → IsSteady role at l streams → SameChanges l m → CursorsAreStreams m.places (map (without_cursor id) streams) → ss ≡ map (without_cursor id) streams → IsSteady role at m ss
dropped_steady role at l streams m ss id is e fed f = record {
  high = ap high_of e.rest ∙ is.high;
  fed = subst (CursorsAreStreams m.places) (sym f) fed;
  feeds = subst (AreFed role m.floor) (sym f) (subst (λ n. AreFed role n (map (without_cursor id) streams)) (sym (ap (λ (x : Ckpts). x.floor) e.rest)) (feeds_dropped role l.floor id streams is.feeds));
}
