use Rattle.std.proofs.lemmas.Result.{IfOk-weaker}
use Rattle.vbucket.proofs.Standing.{open_stands, place_stands, take_stands, store_stands}
use Rattle.vbucket.proofs.Keeping.{ack_stands, chain_stands, durable_stands, tick_stands}
use Rattle.vbucket.proofs.Stepping.{both, told}
use Rattle.vbucket.proofs.vbucket.VBucket.step.Goals as goal

pub returns-in-Store-clause-ok : goal.returns-in-Store-clause-ok
returns-in-Store-clause-ok c =
    IfOk-weaker c.store.result _ _ (λ reply e. told c.args.self.now c.args.call _ c.in-Store.is c.store.new.self reply (λ s kept. store_stands c.args.self.now s kept c.store.new.self reply c.in-Store.write c.in-Store.clock e)) c.store.ensures.ok

pub returns-in-OpenStream-clause-ok : goal.returns-in-OpenStream-clause-ok
returns-in-OpenStream-clause-ok c =
    both c.open_stream.result _ _ _ c.open_stream.ensures.ok c.open_stream.ensures.list
    (λ reply e l. told c.args.self.now c.args.call _ c.in-OpenStream.is c.open_stream.new.self reply (λ s kept. open_stands c.args.self.now s kept c.open_stream.new.self reply c.in-OpenStream.id c.in-OpenStream.ask c.in-OpenStream.sync e l))

pub returns-in-Place-clause-ok : goal.returns-in-Place-clause-ok
returns-in-Place-clause-ok c =
    both c.place.result _ _ _ c.place.ensures.ok c.place.ensures.list
    (λ reply e l. told c.args.self.now c.args.call _ c.in-Place.is c.place.new.self reply (λ s kept. place_stands c.args.self.now s kept c.place.new.self reply c.in-Place.id e l))

pub returns-in-Take-clause-ok : goal.returns-in-Take-clause-ok
returns-in-Take-clause-ok c =
    IfOk-weaker c.take.result _ _ (λ reply e. told c.args.self.now c.args.call _ c.in-Take.is c.take.new.self reply (λ s kept. take_stands c.args.self.now s kept c.take.new.self reply c.in-Take.id e c.take.ensures.zero)) c.take.ensures.ok

pub returns-in-Durable-clause-ok : goal.returns-in-Durable-clause-ok
returns-in-Durable-clause-ok c =
    IfOk-weaker c.prepare.result _ _ (λ reply e. told c.args.self.now c.args.call _ c.in-Durable.is c.prepare.new.self reply (λ s kept. durable_stands c.args.self.now s kept c.prepare.new.self reply c.in-Durable.write c.in-Durable.clock (record { level = c.in-Durable.level; deadline = c.in-Durable.deadline; waiter = c.in-Durable.waiter }) e)) c.prepare.ensures.ok

pub returns-in-Chain-clause-ok : goal.returns-in-Chain-clause-ok
returns-in-Chain-clause-ok c =
    IfOk-weaker c.set_chain.result _ _ (λ reply e. told c.args.self.now c.args.call _ c.in-Chain.is c.set_chain.new.self reply (λ s kept. chain_stands c.args.self.now s kept c.set_chain.new.self reply c.in-Chain.chain e)) c.set_chain.ensures.ok

pub returns-in-Ack-clause-ok : goal.returns-in-Ack-clause-ok
returns-in-Ack-clause-ok c =
    IfOk-weaker c.acknowledge.result _ _ (λ reply e. told c.args.self.now c.args.call _ c.in-Ack.is c.acknowledge.new.self reply (λ s kept. ack_stands c.args.self.now s kept c.acknowledge.new.self reply c.in-Ack.member c.in-Ack.seq e)) c.acknowledge.ensures.ok

pub returns-in-Tick-clause-ok : goal.returns-in-Tick-clause-ok
returns-in-Tick-clause-ok c =
    IfOk-weaker c.tick.result _ _ (λ reply e. told c.args.self.now c.args.call _ c.in-Tick.is c.tick.new.self reply (λ s kept. tick_stands c.args.self.now s kept c.tick.new.self reply c.in-Tick.clock e)) c.tick.ensures.ok
