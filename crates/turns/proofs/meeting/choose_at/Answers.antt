use Rattle.std.proofs.Common.{refl, sym, ap, ◌∙◌, rules}
use Rattle.rows.specs.Decode.{instruction_at, talk_at}
use Rattle.rows.proofs.Talks.{talk_found}
use Rattle.records.specs.Records.{record_at}
use Rattle.records.proofs.RecordLaws.{kept_set, kept_room}
use Rattle.turns.proofs.MeetingLaws.{chose, unmet, none_second, choose_other}
use Rattle.turns.proofs.meeting.choose_at.Goals as goal

pub returns-in_default : goal.returns-in_default
returns-in_default c =
    unmet c.args.rows.now.words.now c.args.rows.now.map.now.second c.args.processes.now _ c.args.i c.args.j refl
    (choose_other c.args.rows.now.words.now (record_at c.args.processes.now c.args.i).place (record_at c.args.processes.now c.args.j).place
    c.requires.chooses.conversation c.args.way c.args.next c.in_default.field-0 c.requires.chooses.is ((talk_found c.args.rows.now.words.now c.place-at.result c.in_default.field-0 (sym c.in_default.is ∙ c.talk_at.ensures.is)) ∙ ap (instruction_at c.args.rows.now.words.now) c.place-at.ensures.place) (λ d f e. search rules))

pub returns-in_default-2 : goal.returns-in_default-2
returns-in_default-2 c =
    unmet c.args.rows.now.words.now c.args.rows.now.map.now.second c.args.processes.now _ c.args.i c.args.j refl
    (none_second c.args.rows.now.words.now (record_at c.args.processes.now c.args.i).place (record_at c.args.processes.now c.args.j).place
    (sym c.in_default.is ∙ (c.talk_at.ensures.is ∙ ap (talk_at c.args.rows.now.words.now) c.place-at.ensures.place)))

pub returns : goal.returns
returns c =
    let k1 = kept_set c.args.processes.now c.args.i c.set_place.new.process _ c.requires.first c.set_place.ensures in
    let k2 = kept_set _ c.args.j c.set_place-2.new.process _ (kept_room k1 c.args.j c.requires.second) c.set_place-2.ensures in
    chose c.args.rows.now.words.now c.args.rows.now.map.now.second c.args.processes.now _ _ c.args.i c.args.j
    c.args.way c.args.next c.place-at.result _ c.in-Some-Offer.first c.way_at-to.result c.in-Some-Offer.field-0
    c.requires.chooses c.place-at.ensures.place (talk_found c.args.rows.now.words.now c.place-at.result c.in-Some-Offer.field-0 c.in-Some-Offer.ensures.is) c.in-Some-Offer.field-0-is c.in-Some-Offer.ensures.words c.way_at-to.ensures
    k1 k2
