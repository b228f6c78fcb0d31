-- whose streams are open where links are other ones
use Rattle.std.specs.Prelude.{◌≡◌, ◌⊎◌}
use Rattle.transcript_law.proofs.Words.{ℕ, ap, sym, ◌∙◌, subst, inl, inr, ⊎_elim, Some, row_at, row_out, row_put, PlainLink, link_number, producer_node, PlainWorld}
use Rattle.transcript_law.proofs.invariant.{Agreement.{IsLink, LinksDiffer, vb_of}, Carrying.{NoNewStream, SameEnds}, ClientsKept.{IsFree}, LinkRows.{found_is_link, out_links, put_links, row_found}}
use Rattle.transcript_law.specs.Feeding.{HasFed, HasOpen}
use Rattle.vb_events.specs.declared.event.StreamName.TheVariants.{Link}

-- the links are those that they were
pub feeds_same : (w w' : PlainWorld) → w'.links ≡ w.links → (l n v id : ℕ) → HasFed w' (Link l) n v id → HasFed w (Link l) n v id
feeds_same w w' linked l n v id (link, is, of) = (link, ap (row_at link_number l) (sym linked) ∙ is, of)

-- one of the links feeds what it says
pub link_feeds : (w : PlainWorld) → LinksDiffer w.links → (l n v id : ℕ) (link : PlainLink) → IsLink link w.links → link_number link ≡ l → producer_node link ≡ n → HasOpen v id link.server.streams → HasFed w (Link l) n v id
link_feeds w differ l n v id link i number at has = (link, subst (λ k. row_at link_number k w.links ≡ Some link) number (row_found w.links link differ i), record { producer = at; stream = has })

-- one of them is another between the same ends: its streams were its own, or are of numbers that were free
pub feeds_put : (w w' : PlainWorld) (l : ℕ) (link link' : PlainLink) → LinksDiffer w.links → row_at link_number l w.links ≡ Some link → SameEnds link link' → w'.links ≡ row_put link_number l link' w.links
    → ((v id : ℕ) → HasOpen v id link'.server.streams → HasOpen v id link.server.streams ⊎ IsFree id (vb_of w (producer_node link) v))
    → (k n v id : ℕ) → HasFed w' (Link k) n v id → HasFed w (Link k) n v id ⊎ ((k ≡ l) × IsFree id (vb_of w n v))
feeds_put w w' l link link' differ found same linked few k n v id (x, is, of) =
    let at = found_is_link k w'.links x is in let was = found_is_link l w.links link found in
    ⊎_elim
    (λ e.
    let end : producer_node link' ≡ producer_node link = ap (λ d. d.node) same.desk in
    let own : producer_node link ≡ n = sym end ∙ ap producer_node (sym e) ∙ of.producer in
    let number : k ≡ l = sym at.1 ∙ ap link_number e ∙ ap (λ d. d.link) same.dialed ∙ was.1 in
    ⊎_elim (λ h. inl (link_feeds w differ k n v id link was.0 (was.1 ∙ sym number) own h)) (λ f. inr (number, subst (λ m. IsFree id (vb_of w m v)) own f))
    (few v id (subst (λ (y : PlainLink). HasOpen v id y.server.streams) e of.stream)))
    (λ p. inl (link_feeds w differ k n v id x p.0 at.1 of.producer of.stream))
    (put_links l w.links link link' x differ found (ap (λ d. d.link) same.dialed ∙ was.1) (subst (IsLink x) linked at.0))

-- where it has no open stream that it had not, all were those that they were
pub feeds_less : (w w' : PlainWorld) (l : ℕ) (link link' : PlainLink) → LinksDiffer w.links → row_at link_number l w.links ≡ Some link → SameEnds link link' → w'.links ≡ row_put link_number l link' w.links → NoNewStream link link'
    → (k n v id : ℕ) → HasFed w' (Link k) n v id → HasFed w (Link k) n v id
feeds_less w w' l link link' differ found same linked less k n v id (x, is, of) =
    let at = found_is_link k w'.links x is in let was = found_is_link l w.links link found in
    ⊎_elim
    (λ e.
    let own : producer_node link ≡ n = sym (ap (λ d. d.node) same.desk) ∙ ap producer_node (sym e) ∙ of.producer in
    let number : k ≡ l = sym at.1 ∙ ap link_number e ∙ ap (λ d. d.link) same.dialed ∙ was.1 in
    link_feeds w differ k n v id link was.0 (was.1 ∙ sym number) own (less v id (subst (λ (y : PlainLink). HasOpen v id y.server.streams) e of.stream)))
    (λ p. link_feeds w differ k n v id x p.0 at.1 of.producer of.stream)
    (put_links l w.links link link' x differ found (ap (λ d. d.link) same.dialed ∙ was.1) (subst (IsLink x) linked at.0))

-- and one is taken out
pub feeds_out : (w w' : PlainWorld) (l : ℕ) (link : PlainLink) → LinksDiffer w.links → row_at link_number l w.links ≡ Some link → w'.links ≡ row_out link_number l w.links
    → (k n v id : ℕ) → HasFed w' (Link k) n v id → HasFed w (Link k) n v id
feeds_out w w' l link differ found linked k n v id (x, is, of) =
    let at = found_is_link k w'.links x is in
    link_feeds w differ k n v id x (out_links l w.links link x differ found (subst (IsLink x) linked at.0)).0 at.1 of.producer of.stream
