use Rattle.std.proofs.Common.{refl}
use Rattle.console.proofs.Spoken.{spoken_run, spoken_unrun}
use Rattle.index.specs.Meaning.{meaning}
use Rattle.index.specs.Opened.{bytes_of}
use Rattle.ask.specs.Asked.{StandsFor, Said, postings_then}
use Rattle.ask.specs.declared.reading.Reading.{Reading}
use Rattle.ask.proofs.answer.answer_over.Goals as goal

pub returns-in-Err : goal.returns-in-Err
returns-in-Err g c = spoken_unrun Said postings_then (meaning (bytes_of c.args.index)) c.no_memory.result _ _

pub returns : goal.returns
returns g c =
    let reading : Reading = record { index = c.args.index; areas = c.in-Ok.areas } in
    spoken_run Said postings_then StandsFor reading c.run.new.session (meaning (bytes_of c.args.index)) refl _ _ _ _ c.run.result c.run.ensures
