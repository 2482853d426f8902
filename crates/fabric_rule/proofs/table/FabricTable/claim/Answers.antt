use Rattle.std.proofs.Common.{sym, subst}
use Rattle.request_context.specs.declared.piece.Parcel.{Parcel}
use Rattle.fabric_rule.specs.SegmentMaps.{ClaimTold}
use Rattle.chunk_map.specs.Looks.{may_be_free, seen_free}
use Rattle.fabric_rule.specs.Views.{map_log}
use Rattle.fabric_rule.proofs.SideSlots.{claim_none, claim_slots, claim_within, steps_only}
use Rattle.fabric_rule.proofs.table.FabricTable.claim.Goals as goal

pub returns-clause-told : goal.returns-clause-told
returns-clause-told g c =
    let key = c.args.self.now.table.shared.key in
    let segments = c.args.segments in
    let old = c.args.seat.now.seat.me in
    let new = c.claim_run-claim.new.seat.seat.me in
    let found = c.claim_run-claim.ensures in
    let search = found.search in
    let within = claim_within (Parcel g.row.H.Denot) key segments c.claim_run-claim.result search.0 c.args.size (seen_free (map_log segments new.0.log)) (may_be_free (map_log segments new.0.log)) search.3 search.5 found.run in
    subst (ClaimTold key segments c.args.size old c.claim_run-claim.result) (sym c.once.ensures.same)
    (record {
      steps = found.told;
      view = steps_only (Parcel g.row.H.Denot) key segments old new found.told;
      opened = search.0;
      some = (search.1, search.2, search.3);
      search = search.4;
      in_open = (search.5, search.6);
      run = found.run;
      within = within;
      slots = claim_slots (Parcel g.row.H.Denot) key segments c.claim_run-claim.result old new c.once.ensures.once found.told within found.gained;
      full = found.full;
      looked = found.looked;
      past = found.past;
      kept = claim_none (Parcel g.row.H.Denot) key segments c.claim_run-claim.result old new c.once.ensures.once found.told found.held;
    })
