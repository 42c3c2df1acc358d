use Rattle.std.proofs.Common.{◌++◌, arith, rules}
use Rattle.std.proofs.lemmas.List.{length-append}
use Rattle.index.specs.declared.fields.TheConstants.{MARK, VERSION}
use Rattle.index.specs.Fields.{u16_bytes, u32_bytes}
use Rattle.index.specs.Writing.{Writes}
use Rattle.index.proofs.Puts.{writes_then}
use Rattle.index.proofs.Runs.{length-u16_bytes, length-u32_bytes}
use Rattle.index.proofs.writer.Writer.put_head.Goals as goal

pub put_u32-requires-2 : goal.put_u32-requires-2
put_u32-requires-2 c = omega (arith, length-u32_bytes c.args.length)

pub returns : goal.returns
unfolding u16_bytes
returns c =
    let v = u16_bytes VERSION in
    let n = u16_bytes c.args.names in
    let s = u32_bytes c.args.length in
    let t = u32_bytes c.args.entries in
    let lv = length-u16_bytes VERSION in
    let ln = length-u16_bytes c.args.names in
    let ls = length-u32_bytes c.args.length in
    let lt = length-u32_bytes c.args.entries in
    let lst = length-append s t in
    let lnst = length-append n (s ++ t) in
    let lvnst = length-append v (n ++ (s ++ t)) in
    let versioned : Writes c.put.new.self c.put-2.new.self v = search rules in
    let named : Writes c.put-2.new.self c.put-3.new.self n = search rules in
    let numbers = writes_then c.put-3.new.self c.put_u32.new.self c.put_u32-2.new.self s t (omega arith) c.put_u32.ensures c.put_u32-2.ensures in
    let fields = writes_then c.put-2.new.self c.put-3.new.self c.put_u32-2.new.self n (s ++ t) (omega arith) named numbers in
    let body = writes_then c.put.new.self c.put-2.new.self c.put_u32-2.new.self v (n ++ (s ++ t)) (omega arith) versioned fields in
    writes_then c.args.self.now c.put.new.self c.put_u32-2.new.self MARK (v ++ (n ++ (s ++ t))) (omega arith) c.put.ensures body
