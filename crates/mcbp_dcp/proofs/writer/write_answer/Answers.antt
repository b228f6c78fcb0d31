-- an answer, part by part
use Rattle.std.proofs.Common.{refl, length}
use Rattle.mcbp_frame.specs.declared.frame.TheConstants.{RESPONSE}
use Rattle.mcbp_frame.specs.Spelling.{spelling}
use Rattle.mcbp_dcp.proofs.Puts.{headed, put}
use Rattle.mcbp_dcp.proofs.writer.write_answer.Goals as goal

pub returns-clause-ok : goal.returns-clause-ok
unfolding spelling
returns-clause-ok c =
    let head = headed _ _ c.request.result _ 0 0 0 0 (λ r k n. record r { magic = RESPONSE; value = length c.args.value.now }) c.in_ok-put_header.ensures.ok c.request.ensures refl refl in
    put c.args.out.now.items _ _ _ _ _ head c.extend_reserved.ensures.items refl
