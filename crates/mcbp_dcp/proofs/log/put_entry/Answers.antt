use Rattle.std.proofs.Common.{◌++◌, ap, ◌∙◌, append_assoc}
use Rattle.std.specs.Int.{w64, to_be_bytes}
use Rattle.mcbp_dcp.proofs.log.put_entry.Goals as goal

pub returns : goal.returns
returns c =
    c.in_ok-put_u64-2.ensures.ok ∙ ap (λ l. l ++ to_be_bytes w64 c.args.entry.now.seq) c.in_ok-put_u64.ensures.ok
    ∙ append_assoc c.args.out.now.items (to_be_bytes w64 c.args.entry.now.uuid) (to_be_bytes w64 c.args.entry.now.seq)
