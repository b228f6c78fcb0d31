use Rattle.std.proofs.Common.{List, ◌≡◌, [], ◌∷◌, ◌++◌, ◌∙◌, sym, ap, subst}
use Rattle.std.specs.Prelude.{reverse}
use Rattle.std.proofs.lemmas.List.{reverse-append}
use Rattle.vb_disk.specs.Memory.{AreBlursOf}
use Rattle.vb_disk.specs.declared.made.Made.{Made}
use Rattle.vb_disk.proofs.Crashed.{blur_more}
use Rattle.vb_disk.proofs.made.+blur_pending.Goals as goal

pub returns-else-is_sync-clause-items : goal.returns-else-is_sync-clause-items
returns-else-is_sync-clause-items t c =
    let popped : c.args.past.now.items ≡ c.pop.new.self.items ++ c.in-Some.made ∷ [] = c.in-Some.ensures.items in
    let before : reverse c.args.past.now.items ≡ c.in-Some.made ∷ reverse c.pop.new.self.items = ap reverse popped ∙ reverse-append c.pop.new.self.items (c.in-Some.made ∷ []) in
    let now : reverse c.push_reserved-else-is_sync.new.self.items ≡ c.blurred.result ∷ reverse c.blur_pending.new.past.items =
    ap reverse c.push_reserved-else-is_sync.ensures.items ∙ reverse-append c.blur_pending.new.past.items (c.blurred.result ∷ []) in
    let P : List Made → Type 0 = λ l. AreBlursOf c.args.byte l (reverse c.push_reserved-else-is_sync.new.self.items) in
    let Q : List Made → Type 0 = λ l. AreBlursOf c.args.byte (c.in-Some.made ∷ reverse c.pop.new.self.items) l in
    subst P (sym before) (subst Q (sym now)
    (blur_more c.args.byte c.in-Some.made c.blurred.result (reverse c.pop.new.self.items) (reverse c.blur_pending.new.past.items) (sym c.if-is_sync.ensures) c.blurred.ensures c.blur_pending.ensures.items))
