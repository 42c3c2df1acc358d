use Rattle.std.proofs.Common.{◌≡◌, ℕ, ◌≤◌, ◌-◌, ◌++◌, length, take, drop, replicate, ap, ◌∙◌, arith, rules}
use Rattle.std.proofs.lemmas.List.{length-append, length-drop, drop-replicate, length-replicate, take_all}
use Rattle.index.specs.Fields.{u32_bytes}
use Rattle.index.specs.Layout.{name_bytes}
use Rattle.index.specs.Writing.{Writes}
use Rattle.index.proofs.Puts.{writes_then}
use Rattle.index.proofs.Runs.{length-u32_bytes, length-name_bytes}
use Rattle.index.proofs.writer.Writer.put_row.Goals as goal

-- what is put after a name
zeros_after : (n : ℕ) → n ≤ 16 → take {A = ℕ} (16 - n) (drop n (replicate 16 0)) ≡ replicate (16 - n) 0
zeros_after n l = take_all (16 - n) (drop n (replicate {A = ℕ} 16 0)) (omega (arith, length-drop n (replicate {A = ℕ} 16 0), length-replicate {A = ℕ} 16 0)) ∙ drop-replicate n 16 0

pub put-requires : goal.put-requires
put-requires c = omega (arith, c.requires.short, c.requires.room)

pub slice_bounds-put-count : goal.slice_bounds-put-count
slice_bounds-put-count c = c.requires.short

pub slice_bounds-put-start : goal.slice_bounds-put-start
slice_bounds-put-start c = let l : length c.args.name.now ≤ 16 = c.requires.short in search rules

pub put_u32-requires : goal.put_u32-requires
put_u32-requires c =
    let n = length c.args.name.now in
    let l : n ≤ 16 = c.requires.short in
    omega (arith, ap length (zeros_after n l), length-replicate {A = ℕ} (16 - n) 0)

pub put_u32-requires-2 : goal.put_u32-requires-2
put_u32-requires-2 c =
    let n = length c.args.name.now in
    let l : n ≤ 16 = c.requires.short in
    omega (arith, ap length (zeros_after n l), length-replicate {A = ℕ} (16 - n) 0, length-u32_bytes c.args.earlier)

pub returns : goal.returns
unfolding name_bytes
returns c =
    let u = c.args.self.now in
    let v = c.put-2.new.self in
    let w = c.put_u32-2.new.self in
    let name = c.args.name.now in
    let e = u32_bytes c.args.earlier in
    let k = u32_bytes c.args.count in
    let l : length name ≤ 16 = c.requires.short in
    let zeros = zeros_after (length name) l in
    let le = length-u32_bytes c.args.earlier in
    let lk = length-u32_bytes c.args.count in
    let lek = length-append e k in
    let lz = length-replicate {A = ℕ} (16 - length name) 0 in
    let padding : Writes c.put.new.self v (replicate (16 - length name) 0) = rw (← zeros) c.put-2.ensures in
    let field = writes_then u c.put.new.self v name (replicate {A = ℕ} (16 - length name) 0) (omega arith) c.put.ensures padding in
    let numbers = writes_then v c.put_u32.new.self w e k (omega arith) c.put_u32.ensures c.put_u32-2.ensures in
    let lf = length-append name (replicate {A = ℕ} (16 - length name) 0) in
    let whole = writes_then u v w (name_bytes name) (e ++ k) (omega arith) field numbers in
    record {
      bytes = whole;
      moved = omega (arith, whole.at, length-name_bytes name l, length-append (name_bytes name) (e ++ k));
    }
