use Rattle.std.proofs.Common.{◌++◌, ◌∷◌, [], ap, ◌∙◌, arith}
use Rattle.vb_journal.specs.Payloads.{doc_head}
use Rattle.vb_journal.proofs.payload.writer.put_doc_head.Goals as goal

pub returns-clause-bytes : goal.returns-clause-bytes
unfolding doc_head
returns-clause-bytes c =
    c.in_ok-put.ensures
    ∙ (λ i. c.args.out.now.items ++ (c.to_be_bytes.ensures i ++ (c.to_be_bytes-2.ensures i ++ (c.to_be_bytes-3.ensures i ++ (c.to_be_bytes-4.ensures i
    ++ (c.args.doc.now.datatype ∷ [] ++ (c.to_be_bytes-5.ensures i ++ [])))))))
    ∙ ap (λ v. c.args.out.now.items ++ doc_head (record c.args.doc.now { value = v })) c.as_slice.ensures.bytes

pub returns-clause-fits : goal.returns-clause-fits
returns-clause-fits c = record { value = c.as_slice.ensures.length; cas = omega arith; rev = omega arith; flags = omega arith; expiry = omega arith; datatype = omega arith }
