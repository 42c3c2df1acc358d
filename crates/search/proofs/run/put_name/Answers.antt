use Rattle.std.proofs.Common.{map, refl, arith}
use Rattle.std.proofs.lemmas.List.{length-take, length-drop}
use Rattle.search.specs.Meaning.{point}
use Rattle.search.specs.Run.{log_of}
use Rattle.search.proofs.Steps.{name_done, name_untouched}
use Rattle.search.proofs.Points.{points_rise}
use Rattle.search.proofs.run.put_name.Goals as goal

pub returns-clause-does : goal.returns-clause-does
returns-clause-does g c scratch log ps n h =
    let lists = g.P.Postings.lists c.args.postings.now in
    let name = c.args.name.now in
    name_done (map point (lists.slots name)) c.args.waiting.now c.push.new.self c.args.stack.now c.fetch.new.out c.fetch.result c.in-Ok.listing c.fetch.ensures c.in-Ok.is c.push.ensures.items
    (log_of lists.slots log) scratch name c.args.place ps n refl h (points_rise lists (g.P.Postings.lawful c.args.postings.now) name)
    (omega (arith, simp (length-take, length-drop) at c.fetch.auto.out, h.used, h.fits)) c.push.ensures.calls

pub returns-clause-untouched : goal.returns-clause-untouched
returns-clause-untouched g c scratch =
    let s = c.requires.stacked.stacked in
    name_untouched (map point ((g.P.Postings.lists c.args.postings.now).slots c.args.name.now)) c.args.waiting.now c.push.new.self c.args.stack.now c.fetch.new.out c.fetch.result c.in-Ok.listing c.fetch.ensures c.in-Ok.is c.push.ensures.items
    scratch (omega (arith, s.used, s.fits)) c.push.ensures.stored c.push.ensures.listed
