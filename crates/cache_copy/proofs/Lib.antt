mod Copying
mod Loading
