use Rattle.std.proofs.Common.{refl, sym, ap, ◌∙◌, rules}
use Rattle.rows.specs.Decode.{instruction_at, talk_at}
use Rattle.rows.proofs.Talks.{talk_found}
use Rattle.records.specs.Records.{record_at}
use Rattle.records.proofs.RecordLaws.{kept_set, kept_room}
use Rattle.turns.proofs.MeetingLaws.{gave, unmet, none_second, give_other}
use Rattle.turns.proofs.meeting.give_to.Goals as goal

pub returns-in_default : goal.returns-in_default
returns-in_default c m =
    unmet c.args.rows.now.words.now m c.args.processes.now _ c.args.i c.args.j refl
    (give_other c.args.rows.now.words.now (record_at c.args.processes.now c.args.i).place (record_at c.args.processes.now c.args.j).place
    c.requires.gives.conversation c.args.value c.in_default.field-0 c.requires.gives.is ((talk_found c.args.rows.now.words.now c.place.result c.in_default.field-0 (sym c.in_default.is ∙ c.talk_at.ensures.is)) ∙ ap (instruction_at c.args.rows.now.words.now) c.place.ensures.place) (λ d x n e. search rules))

pub returns-in_default-2 : goal.returns-in_default-2
returns-in_default-2 c m =
    unmet c.args.rows.now.words.now m c.args.processes.now _ c.args.i c.args.j refl
    (none_second c.args.rows.now.words.now (record_at c.args.processes.now c.args.i).place (record_at c.args.processes.now c.args.j).place
    (sym c.in_default.is ∙ (c.talk_at.ensures.is ∙ ap (talk_at c.args.rows.now.words.now) c.place.ensures.place)))

pub returns : goal.returns
returns c m =
    let k1 = kept_set c.args.processes.now c.args.j c.set_variable.new.process _ c.requires.second c.set_variable.ensures in
    let k2 = kept_set _ c.args.j c.set_place.new.process _ (kept_room k1 c.args.j c.requires.second) c.set_place.ensures in
    let k3 = kept_set _ c.args.i c.set_place-2.new.process _ (kept_room k2 c.args.i (kept_room k1 c.args.i c.requires.first)) c.set_place-2.ensures in
    gave c.args.rows.now.words.now m c.args.processes.now _ _ _ c.args.i c.args.j
    c.args.value c.place.result _ c.in-Some-Take.variable c.in-Some-Take.next c.in-Some-Take.field-0 c.variables.result.now c.evaluate-given.result
    c.requires.gives c.place.ensures.place (talk_found c.args.rows.now.words.now c.place.result c.in-Some-Take.field-0 c.in-Some-Take.ensures.is) c.in-Some-Take.field-0-is c.in-Some-Take.ensures.words c.variables.ensures c.evaluate-given.ensures.value
    k1 k2 k3
