mod Cuts
mod Taking
mod Walking
