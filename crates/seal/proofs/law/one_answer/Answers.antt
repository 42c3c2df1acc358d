use Rattle.seal.proofs.Indexed.{messages_once, sealed_once}
use Rattle.seal.proofs.law.one_answer.Goals as goal

pub returns-clause-messages : goal.returns-clause-messages
returns-clause-messages c = messages_once

pub returns-clause-index : goal.returns-clause-index
returns-clause-index c p a b i j = j.alone a i.bytes i.obeys i.means

pub returns-clause-whole : goal.returns-clause-whole
returns-clause-whole c = sealed_once
