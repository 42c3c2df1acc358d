use Rattle.std.proofs.Common.{◌≡◌, ◌+◌, length, sym, subst, arith}
use Rattle.slots.proofs.Fetching.{Fetched, fetched_none, fetched_within, fetched_at, fetched_more, fetched_fewer, fetched_all}
use Rattle.slots.proofs.listing.slots_of.Goals as goal

pub loop-next-init : goal.loop-next-init
loop-next-init g c =
    let xs = (g.P.Postings.lists c.args.store.now).slots c.args.name.now in
    subst (λ ys. Fetched xs ys c.next-next.result) (sym c.new-slots.ensures.items) (fetched_none xs c.next-next.result c.next-next.ensures)

pub loop-next-smaller : goal.loop-next-smaller
loop-next-smaller g c =
    let xs = (g.P.Postings.lists c.args.store.now).slots c.args.name.now in
    let ys = c.loop-next.slots.items in
    let up = (g.P.Postings.lawful c.args.store.now).rising c.args.name.now in
    let here : Fetched xs ys _ = subst (Fetched xs ys) c.in-Some.is c.loop-next.invariant in
    fetched_fewer xs ys _ c.in-Some.slot (fetched_within xs up ys c.in-Some.slot here) c.in_ok-push.ensures.items

pub loop-next-preserved : goal.loop-next-preserved
loop-next-preserved g c =
    let xs = (g.P.Postings.lists c.args.store.now).slots c.args.name.now in
    let ys = c.loop-next.slots.items in
    let lawful = g.P.Postings.lawful c.args.store.now in
    let up = lawful.rising c.args.name.now in
    let here : Fetched xs ys _ = subst (Fetched xs ys) c.in-Some.is c.loop-next.invariant in
    let below = lawful.below c.args.name.now (length ys) (fetched_within xs up ys c.in-Some.slot here) in
    let key : c.saturating_add.result ≡ c.in-Some.slot + 1 = omega (arith, fetched_at xs up ys c.in-Some.slot here, below, lawful.short, c.saturating_add.ensures) in
    subst (λ zs. Fetched xs zs c.next-next-in-Some.result) (sym c.in_ok-push.ensures.items)
    (fetched_more xs up ys c.in-Some.slot here c.saturating_add.result c.next-next-in-Some.result key c.next-next-in-Some.ensures)

pub returns : goal.returns
returns g c =
    let xs = (g.P.Postings.lists c.args.store.now).slots c.args.name.now in
    fetched_all xs c.loop-next.slots.items (subst (Fetched xs c.loop-next.slots.items) c.in_default.is c.loop-next.invariant)
